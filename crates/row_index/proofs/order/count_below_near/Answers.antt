-- Those of lesser keys stand before a key.
use Rattle.std.proofs.Common.{◌≡◌, ℕ, zero, suc, ◌<◌, ltb, List, [], ◌∷◌, length, get_or, Some, sym, ◌∙◌, ap, arith}
use Rattle.std.specs.List.{slice_get}
use Rattle.std.proofs.lemmas.Bool.{ltb-true}
use Rattle.row_index.specs.Places.{place_key}
use Rattle.row_index.specs.SideRows.{place_at}
use Rattle.row_index.specs.declared.place.RowPlace.{RowPlace}
use Rattle.row_index.proofs.Searches.{count_by-before}
use Rattle.row_index.proofs.SlotPlaces.{Rises-map, count_by-map}
use Rattle.row_index.proofs.order.count_below_near.Goals as goal

pub returns-in-Some : goal.returns-in-Some
returns-in-Some c =
    let place = place_at c.args.columns.now.stamps.now c.args.columns.now.tables.now in
    let key = λ (slot : ℕ). place_key (place slot) in
    let slots = c.args.slots.now in
    let slot = c.in-Some.slot.now in
    let within = ltb-true _ _ (sym c.in-Some.ensures.lookup.0) in
    record {
      bound = omega (arith, within);
      count = λ rises.
          count_by-before key c.args.key slots c.args.near slot (Rises-map place_key place slots rises) (got c.args.near slots slot within (sym c.in-Some.ensures.lookup.1)) (ap place_key (sym c.place.ensures) ∙ sym c.key.ensures.key ∙ c.if-key.true)
          ∙ sym (count_by-map (λ (y : RowPlace). ltb (place_key y) c.args.key) place slots);
    }
  where
    got : (i : ℕ) (xs : List ℕ) (x : ℕ) → i < length xs → get_or xs i x ≡ x → slice_get xs i ≡ Some x
    got i [] x within is = absurd (omega arith)
    got zero (y ∷ ys) x within is = ap Some is
    got (suc i) (y ∷ ys) x within is = got i ys x (omega arith) is
