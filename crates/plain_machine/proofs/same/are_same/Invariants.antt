use Rattle.std.proofs.Common.{◌≡◌, length, take}
use Rattle.plain_machine.proofs.same.are_same.Given as goal

abbrev pub invariant-loop-place : goal.invariant-loop-place
invariant-loop-place g l = (length l.elements ≡ length l.others) × (take l.place l.elements ≡ take l.place l.others)
