use Rattle.std.proofs.Common.{◌≡◌, ◌≤◌, ◌++◌, length, true, drop, take, vec_capacity}
use Rattle.std.specs.List.{filter_map, list_all}
use Rattle.card.specs.Apart as apart
use Rattle.card.proofs.apart.Label.is_never_shared.Given as goal

abbrev pub invariant-loop-index : goal.invariant-loop-index
invariant-loop-index l = record {
  taken : filter_map (apart.number_by l.self) l.records.items ≡ l.numbers.items ++ filter_map (apart.number_by l.self) (drop l.index l.records.items);
  few : length l.numbers.items ≤ l.index;
  room : vec_capacity l.fn.numbers ≤ vec_capacity l.numbers;
  numbered : list_all (apart.is_numbered l.self) (take l.index l.records.items) ≡ true;
}
