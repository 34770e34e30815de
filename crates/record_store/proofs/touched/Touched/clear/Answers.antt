use Rattle.std.specs.Vec.{vec_capacity}
use Rattle.record_store.proofs.Touching.{marked-cleared}
use Rattle.record_store.proofs.touched.Touched.clear.Goals as goal

pub invariant_of-self : goal.invariant_of-self
invariant_of-self c =
    rw (c.clear.ensures.items, c.clear.ensures.capacity) (marked-cleared c.self.inside.slots.items c.self.inside.marks.items c.unmark.new.marks.items (vec_capacity c.self.inside.slots) c.self.invariant c.unmark.ensures.none c.unmark.ensures.count)
