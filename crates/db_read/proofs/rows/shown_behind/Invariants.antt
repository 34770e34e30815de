-- What is wanted stands behind the rows that were passed, which were read.
use Rattle.std.proofs.Common.{◌≡◌, ◌-◌, ◌≤◌, Some}
use Rattle.std.specs.Prelude.{IfSome}
use Rattle.record_table.specs.Listed.{slots_of}
use Rattle.db_read.specs.Reader.{GoesOn}
use Rattle.db_read.proofs.Skipping.{IsStillAhead, ReadsBehind}
use Rattle.db_read.proofs.rows.shown_behind.Given as goal

abbrev pub invariant-loop-room : goal.invariant-loop-room
invariant-loop-room g l = record {
  same : g.B.Eeprom.chip l.reader.bench.now ≡ g.B.Eeprom.chip l.fn.reader.bench.now;
  faults : g.B.Eeprom.faults l.reader.bench.now ≡ g.B.Eeprom.faults l.fn.reader.bench.now;
  goes_on : GoesOn l.fn.reader l.reader;
  low : l.stamp ≤ l.passed;
  left : IfSome (slots_of l.fn.reader.store.now l.fn.reader.side (g.B.Eeprom.chip l.fn.reader.bench.now)) (IsStillAhead l.chosen l.stamp l.passed);
  read : IfSome (slots_of l.fn.reader.store.now l.fn.reader.side (g.B.Eeprom.chip l.fn.reader.bench.now)) (λ slots. ReadsBehind l.chosen l.stamp (Some l.passed) slots (g.B.Eeprom.octets_read l.fn.reader.bench.now) (g.B.Eeprom.octets_read l.reader.bench.now));
}

abbrev pub decreases-loop-room : goal.decreases-loop-room
decreases-loop-room g l = 4294967296 - l.passed
