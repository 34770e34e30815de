-- All keys are below a number where the last is.
use Rattle.std.proofs.Common.{ℕ, ltb, suc, ◌-◌, ◌≡◌, length, sym, ◌∙◌, arith}
use Rattle.std.proofs.lemmas.List.Folds.{list_all-map}
use Rattle.std.proofs.lemmas.Option.{slice_get_within}
use Rattle.row_index.specs.Places.{place_key}
use Rattle.row_index.specs.SideRows.{place_at}
use Rattle.row_index.specs.declared.place.RowPlace.{RowPlace}
use Rattle.row_index.proofs.Searches.{last-below}
use Rattle.row_index.proofs.SlotPlaces.{Rises-map}
use Rattle.row_index.proofs.order.are_below.Goals as goal

pub returns-in-Some : goal.returns-in-Some
returns-in-Some c = record {
  below = λ rises.
      let place = place_at c.args.columns.now.stamps.now c.args.columns.now.tables.now in
      let key = λ (slot : ℕ). place_key (place slot) in
      let slots = c.args.slots.now in
      let slot = c.in-Some.slot.now in
      let got = sym c.in-Some.ensures.value in
      let end : suc (length slots - 1) ≡ length slots = (let within = slice_get_within slots (length slots - 1) slot got in omega arith) in
      let below = last-below key c.args.key slots (length slots - 1) slot (Rises-map place_key place slots rises) got end in
      rw (c.key.ensures.key, c.place.ensures) (below ∙ sym (list_all-map (λ (y : RowPlace). ltb (place_key y) c.args.key) place slots));
}
