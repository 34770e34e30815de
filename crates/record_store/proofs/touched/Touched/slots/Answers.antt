use Rattle.std.proofs.Common.{subst}
use Rattle.record_store.specs.Touched.{TouchedSlots, AreSlots}
use Rattle.record_store.proofs.Touching.{marked-slots}
use Rattle.record_store.proofs.touched.Touched.slots.Goals as goal

pub returns-clause-are : goal.returns-clause-are
returns-clause-are c = subst (λ (touched : TouchedSlots). AreSlots touched.size touched.slots) c.self.view_is (marked-slots c.self.inside.slots.items c.self.inside.marks.items _ c.self.invariant)
