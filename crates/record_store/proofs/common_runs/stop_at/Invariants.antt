use Rattle.record_store.proofs.RunsOfCommon.{StopsFrom}
use Rattle.record_store.proofs.common_runs.stop_at.Given as goal

abbrev pub invariant-loop-from : goal.invariant-loop-from
invariant-loop-from l = StopsFrom l.fn.ends.items l.ends.items l.from l.slot

abbrev pub decreases-loop-from : goal.decreases-loop-from
decreases-loop-from l = l.from
