use Rattle.query.proofs.InTurn.{AreNewUpTo}
use Rattle.query.proofs.resolving.check_sources.Given as goal

abbrev pub invariant-loop-place : goal.invariant-loop-place
invariant-loop-place l = AreNewUpTo l.sources l.place
