-- A key that stands there is the last of those up to it.
use Rattle.std.proofs.Common.{ℕ, leb, sym, ◌∙◌, ap, arith}
use Rattle.std.proofs.lemmas.Bool.{ltb-true}
use Rattle.row_index.specs.Places.{place_key}
use Rattle.row_index.specs.SideRows.{place_at}
use Rattle.row_index.specs.declared.place.RowPlace.{RowPlace}
use Rattle.row_index.proofs.Searches.{count_by-here}
use Rattle.row_index.proofs.SlotPlaces.{Rises-map, count_by-map}
use Rattle.row_index.proofs.order.count_up_to_near.Goals as goal

pub returns-in-Some : goal.returns-in-Some
returns-in-Some c =
    let place = place_at c.args.columns.now.stamps.now c.args.columns.now.tables.now in
    let key = λ (slot : ℕ). place_key (place slot) in
    let slots = c.args.slots.now in
    let slot = c.in-Some.slot.now in
    let within = ltb-true _ _ (sym c.in-Some.ensures.lookup.0) in
    let same = ap key (sym c.in-Some.ensures.lookup.1) ∙ ap place_key (sym c.place.ensures) ∙ sym c.key.ensures.key ∙ c.if-key.true in
    record {
      bound = omega (arith, within);
      count = λ rises.
          let count = count_by-here key c.args.key slots c.args.near slot (Rises-map place_key place slots rises) within same in
          let many = count_by-map (λ (y : RowPlace). leb (place_key y) c.args.key) place slots in
          omega (arith, count, many);
    }
