use Rattle.std.proofs.Common.{◌≡◌, All, take}
use Rattle.record_store.proofs.slots.empty_from.Given as goal

abbrev pub invariant-loop-slot : goal.invariant-loop-slot
invariant-loop-slot l = l.from ≡ 0 → All (λ first. ¬ (first ≡ 65535)) (take l.slot l.firsts)
