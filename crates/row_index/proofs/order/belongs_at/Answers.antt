-- So many keys are up to a number as stand before those above it.
use Rattle.std.proofs.Common.{◌≡◌, ℕ, List, leb, ltb, sym, subst, true, ◌∙◌}
use Rattle.std.specs.List.{count_by, list_all}
use Rattle.std.proofs.lemmas.List.Folds.{list_all-map}
use Rattle.eeprom.specs.Slots.{Rises}
use Rattle.row_index.specs.Places.{place_key}
use Rattle.row_index.specs.SideRows.{place_at, places_at}
use Rattle.row_index.specs.declared.place.RowPlace.{RowPlace}
use Rattle.row_index.proofs.Searches.{Rises-drop, Rises-take, count_by-parted}
use Rattle.row_index.proofs.SlotPlaces.{count_by-map}
use Rattle.row_index.proofs.order.belongs_at.Goals as goal

pub returns-then-are_below : goal.returns-then-are_below
returns-then-are_below c = record {
  bound = λ is. c.in-Some.ensures.cases.0;
  count = λ rises above.
      let place = place_at c.args.columns.now.stamps.now c.args.columns.now.tables.now in
      let key = λ (slot : ℕ). place_key (place slot) in
      let slots = c.args.slots.now in
      let few = λ (y : RowPlace). leb (place_key y) c.args.key in
      let less = λ (y : RowPlace). ltb (place_key y) c.args.key in
      let parts = λ (slots : List ℕ). Rises place_key (places_at c.args.columns.now.stamps.now c.args.columns.now.tables.now slots) in
      let first = subst parts (sym c.in-Some.ensures.cases.1) (Rises-take place_key place c.args.at slots rises) in
      let second = subst parts (sym c.in-Some.ensures.cases.2) (Rises-drop place_key place c.args.at slots rises) in
      let front : list_all (λ slot. less (place slot)) c.in-Some.before.now ≡ true = sym (list_all-map less place c.in-Some.before.now) ∙ (sym (c.are_below.ensures.below first) ∙ c.if-are_below.true) in
      let back : count_by (λ slot. few (place slot)) c.in-Some.behind.now ≡ 0 = sym (count_by-map few place c.in-Some.behind.now) ∙ c.are_above.ensures.above second above in
      count_by-parted key c.args.key c.args.at slots c.in-Some.ensures.cases.0 (rw c.in-Some.ensures.cases.1 at front) (rw c.in-Some.ensures.cases.2 at back)
      ∙ sym (count_by-map few place slots);
}
