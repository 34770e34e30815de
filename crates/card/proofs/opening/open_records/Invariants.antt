use Rattle.std.proofs.Common.{◌≡◌, ◌≤◌, ◌*◌, length}
use Rattle.record_store.proofs.OpeningSlots.{IsOpening}
use Rattle.card.proofs.GatheredSlots.{GathersSoFar}
use Rattle.card.proofs.opening.open_records.Given as goal

abbrev pub invariant-loop-slot : goal.invariant-loop-slot
invariant-loop-slot g l = record {
  opening : IsOpening l.opening l.slot l.initial.opening.chains.cells (g.B.Eeprom.chip l.initial.bench) (g.B.Eeprom.octets_read l.initial.bench) (g.B.Eeprom.octets_read l.bench);
  gathers : GathersSoFar l.opening l.slot (g.B.Eeprom.chip l.initial.bench).image l.gathered.counter l.gathered.records.items;
  few : length l.gathered.records.items ≤ l.slot;
  capacity : l.gathered.records.cells ≡ l.cells;
  size : l.gathered.records.size ≤ 30 * l.opening.weight;
  same : g.B.Eeprom.chip l.bench ≡ g.B.Eeprom.chip l.initial.bench;
  faults : g.B.Eeprom.faults l.bench ≡ g.B.Eeprom.faults l.initial.bench;
}
