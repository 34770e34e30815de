-- The row stands before the first of a greater key.
use Rattle.std.proofs.Common.{◌≡◌, ◌<◌, ℕ, leb, List, refl, ap, sym, ◌∙◌, arith, subst}
use Rattle.std.proofs.Math.ListN.{set}
use Rattle.std.specs.List.{count_by, insert}
use Rattle.eeprom.specs.Slots.{Rises}
use Rattle.row_index.specs.Places.{place_key}
use Rattle.row_index.specs.SideRows.{place_at, places_at}
use Rattle.row_index.proofs.Searches.{if_ok}
use Rattle.row_index.proofs.SlotPlaces.{placed-among}
use Rattle.row_index.proofs.side_rows.SideRows.put.Goals as goal

pub returns-clause-placed : goal.returns-clause-placed
returns-clause-placed c = rw (← c.self.view_is, c.from-2.ensures) (λ order none.
    let stamps = c.args.stamps.now in
    let slots : List ℕ = c.self.inside.slots.items in
    let at = c.count_up_to_near-at.result in
    let there : c.args.slot < c.self.inside.cells = omega (arith, c.if-slot-self.false) in
    let put = c.insert-done.ensures.items ∙ if_ok c.insert-done.result (insert slots at c.args.slot) slots
    (c.insert-done.ensures.succeeds (omega (arith, c.if-len-from.false, c.len.ensures, c.from.ensures, c.self.invariant.room))) in
    let tables : c.as_slice.result.now ≡ set c.self.inside.tables.items c.args.slot c.args.table = c.as_slice.ensures.value ∙ ap (λ n. set c.self.inside.tables.items n c.args.table) c.from-2.ensures in
    let count = subst (λ (tables : List ℕ). Rises place_key (places_at stamps tables slots) → at ≡ count_by (λ y. leb (place_key y) (place_key (place_at stamps tables c.args.slot))) (places_at stamps tables slots)) tables
    (rw (c.as_slice-2.ensures.value, c.key-key.ensures.key, c.place.ensures) at c.count_up_to_near-at.ensures.count) in
    placed-among stamps c.self.inside.tables.items c.args.slot c.args.table at slots c.insert-done.new.self.items (omega (arith, there, c.self.invariant.each)) none order.rises count put)
