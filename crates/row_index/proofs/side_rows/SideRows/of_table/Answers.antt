-- The rows of a table stand one behind the other.
use Rattle.std.proofs.Common.{◌≡◌, ◌<◌, ◌≤◌, ℕ, List, map, inl, inr, refl, ap, sym, subst, ◌∙◌, arith}
use Rattle.std.specs.List.{filter, slice_range, AllByRecursion}
use Rattle.row_index.specs.Places.{is_in_table, place_slot}
use Rattle.row_index.specs.SideRows.{AreInOrder, places_at, places_of}
use Rattle.row_index.proofs.SlotPlaces.{all-range, slots-range}
use Rattle.row_index.proofs.Tables.{before-with, between, count_before, count_with}
use Rattle.row_index.proofs.side_rows.SideRows.of_table.Goals as goal

pub returns-in-Some-clause-rows : goal.returns-in-Some-clause-rows
returns-in-Some-clause-rows c = λ order.
    let places = places_at c.columns-columns.result.stamps.now c.columns-columns.result.tables.now c.as_slice-slots.result.now in
    let same : places ≡ places_of c.args.stamps.now c.args.self.now.rows = rw (c.as_slice-slots.ensures.value, c.columns-columns.ensures.stamps, c.columns-columns.ensures.tables, ← c.self.view_is) refl in
    let here = subst AreInOrder (sym same) order in
    let from : c.count_below-from.result ≡ count_before c.args.table places = rw c.key_in_table.ensures at c.count_below-from.ensures.count here.rises in
    let end : c.count_up_to-end.result ≡ count_with c.args.table places = rw c.key_in_table-2.ensures at c.count_up_to-end.ensures.count here.rises in
    let part : c.in-Some.rows.now ≡ slice_range c.as_slice-slots.result.now c.count_below-from.result c.count_up_to-end.result = c.in-Some.ensures.lookup.0.2 in
    part ∙ sym (slots-range c.columns-columns.result.stamps.now c.columns-columns.result.tables.now c.as_slice-slots.result.now c.count_below-from.result c.count_up_to-end.result)
    ∙ ap (map place_slot) (ap (λ n. slice_range places n c.count_up_to-end.result) from ∙ ap (slice_range places (count_before c.args.table places)) end ∙ between c.args.table places here.rises here.fits
    ∙ ap (filter (is_in_table c.args.table)) same)

pub returns-in-Some-clause-there : goal.returns-in-Some-clause-there
returns-in-Some-clause-there c =
    let part : c.in-Some.rows.now ≡ slice_range c.as_slice-slots.result.now c.count_below-from.result c.count_up_to-end.result = c.in-Some.ensures.lookup.0.2 in
    let within : AllByRecursion (λ slot. slot < c.args.self.now.cells) c.as_slice-slots.result.now = rw (c.as_slice-slots.ensures.value, ← c.self.view_is) c.self.invariant.within in
    subst (AllByRecursion (λ slot. slot < c.args.self.now.cells)) (sym part) (all-range (λ slot. slot < c.args.self.now.cells) c.as_slice-slots.result.now c.count_below-from.result c.count_up_to-end.result within)

pub returns-in-None-clause-rows : goal.returns-in-None-clause-rows
returns-in-None-clause-rows c = λ order.
    let places = places_at c.columns-columns.result.stamps.now c.columns-columns.result.tables.now c.as_slice-slots.result.now in
    let same : places ≡ places_of c.args.stamps.now c.args.self.now.rows = rw (c.as_slice-slots.ensures.value, c.columns-columns.ensures.stamps, c.columns-columns.ensures.tables, ← c.self.view_is) refl in
    let here = subst AreInOrder (sym same) order in
    let from : c.count_below-from.result ≡ count_before c.args.table places = rw c.key_in_table.ensures at c.count_below-from.ensures.count here.rises in
    let end : c.count_up_to-end.result ≡ count_with c.args.table places = rw c.key_in_table-2.ensures at c.count_up_to-end.ensures.count here.rises in
    let few = before-with c.args.table places in
    absurd (elim c.in-None.ensures.lookup.0 [
      | inl w ↦ omega (arith, w, from, end, few)
      | inr w ↦ omega (arith, w, c.count_up_to-end.ensures.bound)
    ])
