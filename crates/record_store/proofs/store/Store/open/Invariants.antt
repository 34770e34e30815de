use Rattle.std.proofs.Common.{◌≡◌}
use Rattle.record_store.proofs.OpeningSlots.{IsOpening}
use Rattle.record_store.proofs.store.Store.open.Given as goal

abbrev pub invariant-loop-slot : goal.invariant-loop-slot
invariant-loop-slot g l = record {
  opening : IsOpening l.opening l._slot l.initial.opening.chains.cells (g.B.Eeprom.chip l.initial.bench) (g.B.Eeprom.octets_read l.initial.bench) (g.B.Eeprom.octets_read l.bench);
  same : g.B.Eeprom.chip l.bench ≡ g.B.Eeprom.chip l.initial.bench;
  faults : g.B.Eeprom.faults l.bench ≡ g.B.Eeprom.faults l.initial.bench;
}
