-- The side's search, where the rows are in order.
use Rattle.std.proofs.Common.{ap, ◌∙◌, subst, sym}
use Rattle.std.specs.Prelude.{option_map}
use Rattle.std.specs.List.{find}
use Rattle.row_index.specs.Places.{is_row_of, place_slot}
use Rattle.row_index.proofs.Stamped.{where-indexed}
use Rattle.row_index.proofs.index.RowIndex.find.Goals as goal

pub returns-clause-value : goal.returns-clause-value
returns-clause-value c =
    where-indexed c.args.self.now c.args.store.now c.args.side c.stamps.result.now _ c.stamps.ensures
    (λ slots here order. rw c.side.ensures.rows at c.find.ensures.value order ∙ ap (λ places. option_map place_slot (find (is_row_of c.args.table c.args.stamp) places)) here)
