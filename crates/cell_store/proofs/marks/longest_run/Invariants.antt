use Rattle.std.proofs.Common.{ℕ, ◌<◌, ◌≤◌, ◌-◌, length}
use Rattle.cell_store.specs.Marks.{IsFreeRun}
use Rattle.cell_store.proofs.marks.longest_run.Given as goal

abbrev pub invariant-loop-cell : goal.invariant-loop-cell
invariant-loop-cell l = record {
  free : IsFreeRun l.marks l.best.cell l.best.count;
  below : l.best.count < l.most;
  longest : (cell count : ℕ) → l.from ≤ cell → cell < l.cell → IsFreeRun l.marks cell count → count ≤ l.best.count;
}

abbrev pub decreases-loop-cell : goal.decreases-loop-cell
decreases-loop-cell l = length l.marks - l.cell
