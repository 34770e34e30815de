use Rattle.std.proofs.Common.{◌≡◌, ◌≤◌, ℕ, ◌+◌, length, take, drop}
use Rattle.eeprom.specs.Chip.{Keeps}
use Rattle.record_store.specs.Appends.{Appends, end_of}
use Rattle.record_store.proofs.writer.Writer.append.Given as goal

abbrev pub invariant-loop-octet : goal.invariant-loop-octet
invariant-loop-octet g l = record {
  appends : Appends (take l.octet-index l.octets) l.initial.self l.self (g.B.Eeprom.chip l.initial.bench) (g.B.Eeprom.chip l.bench);
  behind : 4 ≤ l.self.at;
  front : Keeps (take 4) (g.B.Eeprom.chip l.initial.bench) (g.B.Eeprom.chip l.bench);
  after : (limit : ℕ) → end_of l.initial.self + length l.octets ≤ limit → Keeps (drop limit) (g.B.Eeprom.chip l.initial.bench) (g.B.Eeprom.chip l.bench);
  faults : g.B.Eeprom.faults l.bench ≡ g.B.Eeprom.faults l.initial.bench;
}
