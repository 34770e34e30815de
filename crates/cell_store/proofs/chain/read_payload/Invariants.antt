use Rattle.std.proofs.Common.{◌≡◌, ℕ, ◌+◌, ◌*◌, List, length, IfSome}
use Rattle.eeprom.specs.Chip.{Becomes}
use Rattle.cell_store.specs.Reading.{ReadsCells}
use Rattle.cell_store.specs.Walk.{Walked}
use Rattle.cell_store.proofs.chain.read_payload.Given as goal

abbrev pub invariant-loop-step : goal.invariant-loop-step
invariant-loop-step g l = record {
  size : length l.payload.items ≡ length l.initial.payload.items + 30 * l._step;
  walked : IfSome (g.B.Eeprom.chip l.initial.bench).image (λ image. (chain : List ℕ) (step : ℕ)
      → Walked l.cells chain l.first l.initial.payload.items step image → Walked l.cells chain l.cell l.payload.items (step + l._step) image);
  read : Becomes (ReadsCells l._step) (g.B.Eeprom.octets_read l.initial.bench) (g.B.Eeprom.octets_read l.bench);
  same : g.B.Eeprom.chip l.bench ≡ g.B.Eeprom.chip l.initial.bench;
  faults : g.B.Eeprom.faults l.bench ≡ g.B.Eeprom.faults l.initial.bench;
}
