use Rattle.std.proofs.Common.{take}
use Rattle.record_store.proofs.Replaced.{Freeing}
use Rattle.record_store.proofs.slots.free_replaced.Given as goal

abbrev pub invariant-loop-slot : goal.invariant-loop-slot
invariant-loop-slot l = Freeing l.fn.cells l.cells l.replaced l.kept (take l.slot-index l.slots)
