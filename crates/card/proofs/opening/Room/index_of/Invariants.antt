use Rattle.std.proofs.Common.{◌≡◌, ◌≤◌, ◌++◌, length, drop, vec_capacity}
use Rattle.std.specs.List.{filter_map}
use Rattle.card.specs.KeptRecords.{as_place}
use Rattle.card.proofs.opening.Room.index_of.Given as goal

abbrev pub invariant-loop-nth : goal.invariant-loop-nth
invariant-loop-nth l = record {
  taken : filter_map as_place l.records.items ≡ l.places.items ++ filter_map as_place (drop l.nth l.records.items);
  few : length l.places.items ≤ l.nth;
  room : vec_capacity l.places ≡ vec_capacity l.initial.places;
}
