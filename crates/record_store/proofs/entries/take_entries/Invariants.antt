use Rattle.std.proofs.Common.{◌≡◌, take}
use Rattle.std.specs.Vec.{vec_capacity}
use Rattle.record_store.proofs.ChangedSlots.{SoFar}
use Rattle.record_store.proofs.Rising.{RisesTo}
use Rattle.record_store.proofs.entries.take_entries.Given as goal

abbrev pub invariant-loop-slot : goal.invariant-loop-slot
invariant-loop-slot l = record {
  so_far : SoFar l.committed l.working (take l.slot-index l.slots) l.entries.items;
  rises : RisesTo l.slots l.slot-index l.entries.items;
  room : vec_capacity l.entries ≡ vec_capacity l.fn.entries;
}
