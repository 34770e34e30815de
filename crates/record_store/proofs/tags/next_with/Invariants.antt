use Rattle.std.proofs.Common.{◌-◌, length}
use Rattle.record_store.proofs.Tagging.{ArePassed}
use Rattle.record_store.proofs.tags.next_with.Given as goal

abbrev pub invariant-loop-slot : goal.invariant-loop-slot
invariant-loop-slot g l = ArePassed g.T.PartialEq.eq l.tags l.tag l.from l.slot

abbrev pub decreases-loop-slot : goal.decreases-loop-slot
decreases-loop-slot g l = length l.tags - l.slot

abbrev pub invariant-loop-slot-2 : goal.invariant-loop-slot-2
invariant-loop-slot-2 g l = ArePassed g.T.PartialEq.eq l.tags l.tag l.from l.slot

abbrev pub decreases-loop-slot-2 : goal.decreases-loop-slot-2
decreases-loop-slot-2 g l = length l.tags - l.slot
