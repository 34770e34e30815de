use Rattle.std.proofs.Common.{◌≡◌, length, drop}
use Rattle.record_store.specs.Touched.{SameOutside}
use Rattle.record_store.proofs.slots.copy_slots.Given as goal

abbrev pub invariant-loop-slot : goal.invariant-loop-slot
invariant-loop-slot l = record {
  count : length l.to.items ≡ length l.from;
  others : SameOutside (drop l.slot-index l.slots) l.to.items l.from;
}
