use Rattle.cell_store.specs.Marks.{IsFreeRun}
use Rattle.cell_store.proofs.marks.count_free_from.Given as goal

abbrev pub invariant-loop-count : goal.invariant-loop-count
invariant-loop-count l = IsFreeRun l.marks l.cell l.count
