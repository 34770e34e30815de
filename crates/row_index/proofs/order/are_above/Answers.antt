-- No key is up to a number where the first isn't.
use Rattle.std.proofs.Common.{ℕ, leb, sym, ◌∙◌, arith, ◌<◌}
use Rattle.std.proofs.lemmas.Bool.{ltb-true}
use Rattle.row_index.specs.Places.{place_key}
use Rattle.row_index.specs.SideRows.{place_at}
use Rattle.row_index.specs.declared.place.RowPlace.{RowPlace}
use Rattle.row_index.proofs.Searches.{count_by-above}
use Rattle.row_index.proofs.SlotPlaces.{Rises-map, count_by-map}
use Rattle.row_index.proofs.order.are_above.Goals as goal

pub returns-in-Some : goal.returns-in-Some
returns-in-Some c = record {
  above = λ rises above.
      let place = place_at c.args.columns.now.stamps.now c.args.columns.now.tables.now in
      let key = λ (slot : ℕ). place_key (place slot) in
      let slots = c.args.slots.now in
      let first = c.in-Some.slot.now in
      let less : c.args.key < key first = ltb-true c.args.key (key first) (rw (c.key.ensures.key, c.place.ensures) at above) in
      count_by-map (λ (y : RowPlace). leb (place_key y) c.args.key) place slots
      ∙ count_by-above key c.args.key slots first (Rises-map place_key place slots rises) (sym c.in-Some.ensures.value) less;
}
