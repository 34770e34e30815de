use Rattle.std.proofs.Common.{◌≡◌, ◌+◌, ◌-◌, ◌*◌, ◌++◌, length}
use Rattle.cell_store.specs.Runs.{run_octets}
use Rattle.cell_store.proofs.placing.fill_run.Given as goal

abbrev pub invariant-loop-step : goal.invariant-loop-step
invariant-loop-step l = record {
  rest : l.octets.items ++ run_octets (l.run.cell + l.step) (l.run.count - l.step) l.after l.payload (l.piece + l.step) ≡ run_octets l.run.cell l.run.count l.after l.payload l.piece;
  size : length l.octets.items ≡ 32 * l.step;
}
