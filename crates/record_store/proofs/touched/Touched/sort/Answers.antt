use Rattle.std.proofs.Common.{ℕ, rules}
use Rattle.std.specs.Vec.{vec_capacity}
use Rattle.std.proofs.lemmas.List.Sorted.{IsNonDecreasingBy-from_sort}
use Rattle.record_store.proofs.Touching.{marked-sorted}
use Rattle.record_store.proofs.touched.Touched.sort.Goals as goal

pub invariant_of-self : goal.invariant_of-self
invariant_of-self c =
    rw (c.sort_unstable.ensures.capacity) (marked-sorted c.self.inside.slots.items c.sort_unstable.new.self.items c.self.inside.marks.items (vec_capacity c.self.inside.slots) c.sort_unstable.ensures.permutation c.self.invariant)

pub returns : goal.returns
returns c = record {
  slots = search rules;
  rising = IsNonDecreasingBy-from_sort (λ (slot : ℕ). slot) c.sort_unstable.new.self.items c.sort_unstable.ensures.sorted;
  size = search rules;
}
