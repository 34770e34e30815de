-- The side's rows of the table, where they are in order.
use Rattle.std.proofs.Common.{map, ap, ◌∙◌}
use Rattle.std.specs.List.{filter}
use Rattle.row_index.specs.Places.{is_in_table, place_slot}
use Rattle.row_index.proofs.Stamped.{where-indexed}
use Rattle.row_index.proofs.index.RowIndex.rows_of.Goals as goal

pub returns-clause-rows : goal.returns-clause-rows
returns-clause-rows c =
    where-indexed c.args.self.now c.args.store.now c.args.side c.stamps.result.now _ c.stamps.ensures
    (λ slots here order. rw c.side.ensures.rows at c.of_table.ensures.rows order ∙ ap (λ places. map place_slot (filter (is_in_table c.args.table) places)) here)

pub returns-clause-there : goal.returns-clause-there
returns-clause-there c = rw c.side.ensures.rows at c.of_table.ensures.there
