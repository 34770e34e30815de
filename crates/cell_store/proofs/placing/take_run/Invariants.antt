use Rattle.std.proofs.Common.{◌≡◌, ◌+◌, ◌-◌}
use Rattle.cell_store.specs.Runs.{run_first, run_marked, run_linked}
use Rattle.cell_store.proofs.placing.take_run.Given as goal

abbrev pub invariant-loop-step : goal.invariant-loop-step
invariant-loop-step l = record {
  marks : l.marks ≡ run_marked l.initial.marks (l.run.cell + (l.run.count - l.step)) l.step;
  links : l.links ≡ run_linked l.initial.links (l.run.cell + (l.run.count - l.step)) l.step l.after;
  next : l.next ≡ run_first (l.run.cell + (l.run.count - l.step)) l.step l.after;
}
