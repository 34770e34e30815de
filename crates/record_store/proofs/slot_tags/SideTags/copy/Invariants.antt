use Rattle.std.proofs.Common.{◌≡◌, length, drop}
use Rattle.record_store.specs.Touched.{SameOutside}
use Rattle.record_store.proofs.slot_tags.SideTags.copy.Given as goal

abbrev pub invariant-loop-slot : goal.invariant-loop-slot
invariant-loop-slot l = record {
  names_count : length l.self-inside.names.items ≡ length l.other-inside.names.items;
  names : SameOutside (drop l.slot-index l.slots) l.self-inside.names.items l.other-inside.names.items;
  stamps_count : length l.self-inside.stamps.items ≡ length l.other-inside.stamps.items;
  stamps : SameOutside (drop l.slot-index l.slots) l.self-inside.stamps.items l.other-inside.stamps.items;
}
