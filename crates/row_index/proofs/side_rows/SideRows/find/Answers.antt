-- The row stands behind those of lesser keys.
use Rattle.std.proofs.Common.{◌≡◌, ◌<◌, ◌⊎◌, ℕ, Bool, true, false, eqb, Some, None, inl, inr, refl, ap, sym, subst, ◌∙◌}
use Rattle.std.specs.Prelude.{option_map}
use Rattle.std.specs.List.{AllByRecursion}
use Rattle.std.proofs.lemmas.Bool.{eq-eqb, ne_eqb, and_left, and_right}
use Rattle.row_index.specs.Places.{is_in_table, is_row_of, place_slot}
use Rattle.row_index.specs.SideRows.{place_at, places_at, places_of}
use Rattle.row_index.specs.declared.place.RowPlace.{RowPlace}
use Rattle.row_index.proofs.Searches.{all-got}
use Rattle.row_index.proofs.SlotPlaces.{map-all}
use Rattle.row_index.proofs.Tables.{found-row, if_row}
use Rattle.row_index.proofs.side_rows.SideRows.find.Goals as goal

pub returns-in_err-place-clause-value : goal.returns-in_err-place-clause-value
returns-in_err-place-clause-value c = λ order.
    let places = places_at c.columns-columns.result.stamps.now c.columns-columns.result.tables.now c.as_slice-slots.result.now in
    let same : places ≡ places_of c.args.stamps.now c.args.self.now.rows = rw (c.as_slice-slots.ensures.value, c.columns-columns.ensures.stamps, c.columns-columns.ensures.tables, ← c.self.view_is) refl in
    c.from_residual.ensures ∙ ap (option_map place_slot)
    (sym (found-row c.args.table c.args.stamp places _ c.count_below_near-at.result None same order (rw c.key_in_table.ensures at c.count_below_near-at.ensures.count) (sym c.in_err-place.was ∙ c.place_among.ensures)))

pub returns-then-place-stamp-clause-value : goal.returns-then-place-stamp-clause-value
returns-then-place-stamp-clause-value c = λ order.
    let places = places_at c.columns-columns.result.stamps.now c.columns-columns.result.tables.now c.as_slice-slots.result.now in
    let same : places ≡ places_of c.args.stamps.now c.args.self.now.rows = rw (c.as_slice-slots.ensures.value, c.columns-columns.ensures.stamps, c.columns-columns.ensures.tables, ← c.self.view_is) refl in
    let place = c.in_ok-place.place in
    let own : if_row c.args.table c.args.stamp (Some place) ≡ Some place = rw (eq-eqb place.table c.args.table c.if-place-table.true, eq-eqb place.stamp c.args.stamp c.if-place-stamp.true) refl in
    ap (option_map place_slot)
    (sym (found-row c.args.table c.args.stamp places _ c.count_below_near-at.result (Some place) same order (rw c.key_in_table.ensures at c.count_below_near-at.ensures.count) (sym c.in_ok-place.was ∙ c.place_among.ensures) ∙ own))

pub returns-else-place-table-clause-value : goal.returns-else-place-table-clause-value
returns-else-place-table-clause-value c = λ order.
    let places = places_at c.columns-columns.result.stamps.now c.columns-columns.result.tables.now c.as_slice-slots.result.now in
    let same : places ≡ places_of c.args.stamps.now c.args.self.now.rows = rw (c.as_slice-slots.ensures.value, c.columns-columns.ensures.stamps, c.columns-columns.ensures.tables, ← c.self.view_is) refl in
    let place = c.in_ok-place.place in
    let no : is_row_of c.args.table c.args.stamp place ≡ false = elim c.else-place-table.either [
      | inl w ↦ and_right (eqb place.table c.args.table) (eqb place.stamp c.args.stamp) (ne_eqb place.stamp c.args.stamp w.1)
      | inr w ↦ and_left (eqb place.table c.args.table) (eqb place.stamp c.args.stamp) (ne_eqb place.table c.args.table w)
    ] in
    let other : if_row c.args.table c.args.stamp (Some place) ≡ None = rw no refl in
    ap (option_map place_slot)
    (sym (found-row c.args.table c.args.stamp places _ c.count_below_near-at.result (Some place) same order (rw c.key_in_table.ensures at c.count_below_near-at.ensures.count) (sym c.in_ok-place.was ∙ c.place_among.ensures) ∙ other))

pub returns-then-place-stamp-clause-there : goal.returns-then-place-stamp-clause-there
returns-then-place-stamp-clause-there c =
    let places = places_at c.columns-columns.result.stamps.now c.columns-columns.result.tables.now c.as_slice-slots.result.now in
    let within : AllByRecursion (λ (place : RowPlace). place.slot < c.args.self.now.cells) places = rw (c.as_slice-slots.ensures.value, ← c.self.view_is)
    (map-all (λ (place : RowPlace). place.slot < c.self.inside.cells) (place_at c.columns-columns.result.stamps.now c.columns-columns.result.tables.now) c.self.inside.slots.items c.self.invariant.within) in
    all-got (λ (place : RowPlace). place.slot < c.args.self.now.cells) places _ c.in_ok-place.place within (sym c.place_among.ensures ∙ c.in_ok-place.was)
