use Rattle.std.proofs.Common.{arith}
use Rattle.cell_store.proofs.FreeRuns.{some-longest}
use Rattle.cell_store.proofs.marks.Marks.find_run.Goals.{then-run-most, else-run-most}
use Rattle.cell_store.proofs.marks.Marks.find_run.Goals as goal

pub returns-clause-some : goal.returns-clause-some
returns-clause-some c = elim c.if-run-most.branch [
  | then-run-most w ↦ rw (w.run-is)
      (some-longest c.args.self.now c.args.most w.longest_run-run-then-run-most.result.count c.requires.most c.requires.free (rw (w.as_slice-then-run-most.ensures.value, c.self.view_is) at w.longest_run-run-then-run-most.ensures.longest))
  | else-run-most w ↦ rw (w.run-is) (omega (arith, w.if-run-most.false, c.requires.most))
]

pub returns-clause-longest : goal.returns-clause-longest
returns-clause-longest c = elim c.if-run-most.branch [
  | then-run-most w ↦ rw (w.run-is)
      (λ short cell count run. (rw (w.as_slice-then-run-most.ensures.value, c.self.view_is) at w.longest_run-run-then-run-most.ensures.longest) short cell count (omega arith) run)
  | else-run-most w ↦ rw (w.run-is) (λ short. absurd (omega (arith, short, w.if-run-most.false)))
]
