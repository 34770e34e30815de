use Rattle.std.specs.Prelude.{◌≡◌, ◌≤◌, ◌-◌}
use Rattle.eeprom.proofs.cut_bench.fill_over.Given as goal

abbrev pub invariant-loop-done : goal.invariant-loop-done
invariant-loop-done g l = record {
  still : (g.B.Eeprom.chip l.bench).still ≡ (g.B.Eeprom.chip l.fn.bench).still;
  never_falls : g.B.Eeprom.faults l.fn.bench ≤ g.B.Eeprom.faults l.bench;
  within : l.done ≤ l.count;
}

abbrev pub decreases-loop-done : goal.decreases-loop-done
decreases-loop-done g l = l.count - l.done
