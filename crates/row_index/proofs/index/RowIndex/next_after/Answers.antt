-- The side's search, where the rows are in order.
use Rattle.std.proofs.Common.{◌≡◌, ℕ, None, Some, ap, sym, ◌∙◌}
use Rattle.std.specs.Prelude.{option_map}
use Rattle.std.specs.List.{find}
use Rattle.row_index.specs.Places.{is_later_in}
use Rattle.row_index.specs.declared.place.RowPlace.{RowPlace}
use Rattle.row_index.proofs.Stamped.{where-indexed}
use Rattle.row_index.proofs.index.RowIndex.next_after.Goals as goal

pub returns-in_err-place-clause-value : goal.returns-in_err-place-clause-value
returns-in_err-place-clause-value c =
    where-indexed c.args.self.now c.args.store.now c.args.side c.stamps-stamps.result.now _ c.stamps-stamps.ensures (λ slots here order.
    let found = sym c.in_err-place.was ∙ rw c.side.ensures.rows at c.next_after.ensures.value order ∙ ap (find (is_later_in c.args.table c.args.stamp)) here in
    c.from_residual.ensures ∙ ap (option_map (λ (place : RowPlace). (place.stamp, place.slot))) found)

pub returns-clause-value : goal.returns-clause-value
returns-clause-value c =
    where-indexed c.args.self.now c.args.store.now c.args.side c.stamps-stamps.result.now _ c.stamps-stamps.ensures (λ slots here order.
    let found = sym c.in_ok-place.was ∙ rw c.side.ensures.rows at c.next_after.ensures.value order ∙ ap (find (is_later_in c.args.table c.args.stamp)) here in
    ap (option_map (λ (place : RowPlace). (place.stamp, place.slot))) found)
