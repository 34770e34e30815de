-- The point of a search by halves is the count of those before it.
use Rattle.std.proofs.Common.{ℕ, ltb, rules, sym, ◌∙◌}
use Rattle.std.proofs.lemmas.List.Sorted.{IsPartitionPoint-from_clause, IsPartitionedBy-ltb}
use Rattle.row_index.specs.Places.{place_key}
use Rattle.row_index.specs.SideRows.{place_at}
use Rattle.row_index.specs.declared.place.RowPlace.{RowPlace}
use Rattle.row_index.proofs.Searches.{IsNonDecreasingBy-rising, count_by-point}
use Rattle.row_index.proofs.SlotPlaces.{Rises-map, count_by-map}
use Rattle.row_index.proofs.order.count_below.Goals as goal

pub returns : goal.returns
returns c = record {
  bound = c.partition_point.ensures.bound;
  count = λ rises.
      let place = place_at c.args.columns.now.stamps.now c.args.columns.now.tables.now in
      let key = λ (slot : ℕ). place_key (place slot) in
      let test = λ (slot : ℕ). ltb (key slot) c.args.key in
      let slots = c.args.slots.now in
      let parted = IsPartitionedBy-ltb key _ c.args.key (IsNonDecreasingBy-rising key slots (Rises-map place_key place slots rises)) in
      let point = IsPartitionPoint-from_clause test _ _ c.partition_point.ensures.partitioned parted (λ a r q k. search rules) in
      count_by-point test slots c.partition_point.result c.partition_point.ensures.bound point ∙ sym (count_by-map (λ (y : RowPlace). ltb (place_key y) c.args.key) place slots);
}
