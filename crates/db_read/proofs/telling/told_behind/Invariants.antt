-- What is wanted stands behind the rows that were passed.
use Rattle.std.proofs.Common.{◌≡◌, ◌-◌}
use Rattle.db_read.specs.Reader.{GoesOn}
use Rattle.db_read.proofs.DictionaryRows.{IsRowAhead}
use Rattle.db_read.proofs.telling.told_behind.Given as goal

abbrev pub invariant-loop-next : goal.invariant-loop-next
invariant-loop-next g l = record {
  same : g.B.Eeprom.chip l.reader.bench.now ≡ g.B.Eeprom.chip l.fn.reader.bench.now;
  faults : g.B.Eeprom.faults l.reader.bench.now ≡ g.B.Eeprom.faults l.fn.reader.bench.now;
  goes_on : GoesOn l.fn.reader l.reader;
  left : IsRowAhead l.told l.fn.reader.store.now l.fn.reader.side (g.B.Eeprom.chip l.fn.reader.bench.now) l.stamp l.passed;
}

abbrev pub decreases-loop-next : goal.decreases-loop-next
decreases-loop-next g l = 4294967296 - l.passed
