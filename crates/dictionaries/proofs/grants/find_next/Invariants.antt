use Rattle.std.proofs.Common.{◌≡◌, ◌≤◌, ◌-◌}
use Rattle.std.specs.Prelude.{IfSome}
use Rattle.eeprom.specs.Chip.{Becomes}
use Rattle.scql_model.specs.Database.{Database}
use Rattle.record_table.specs.Asking.{Holds, SameSide, slots_asked}
use Rattle.record_table.specs.Reading.{NeverFalls}
use Rattle.record_table.proofs.Scan.{AreEmptyFrom}
use Rattle.dictionaries.proofs.Nearest.{IsNearest, ReadsGrants}
use Rattle.dictionaries.proofs.grants.find_next.Given as goal

abbrev pub invariant-loop-slot : goal.invariant-loop-slot
invariant-loop-slot g l = record {
  goes_on : SameSide l.fn.reader l.reader;
  same : g.B.Eeprom.chip l.reader.bench.now ≡ g.B.Eeprom.chip l.fn.reader.bench.now;
  faults : g.B.Eeprom.faults l.reader.bench.now ≡ g.B.Eeprom.faults l.fn.reader.bench.now;
  bound : l.end ≤ l.fn.reader.store.now.chains.cells;
  here : l.slot ≤ l.fn.reader.store.now.chains.cells;
  empty : IfSome (slots_asked l.fn.reader) (AreEmptyFrom l.end);
  nearest : (db : Database) (held : Holds l.fn.reader db) → IsNearest db l.owner l.stamp l.nearest l.slot held.slots;
  read : IfSome (slots_asked l.fn.reader) (λ slots. Becomes (ReadsGrants l.slot slots) (g.B.Eeprom.octets_read l.fn.reader.bench.now) (g.B.Eeprom.octets_read l.reader.bench.now));
  rises : NeverFalls (slots_asked l.fn.reader) (g.B.Eeprom.octets_read l.fn.reader.bench.now) (g.B.Eeprom.octets_read l.reader.bench.now);
}

abbrev pub decreases-loop-slot : goal.decreases-loop-slot
decreases-loop-slot g l = l.end - l.slot
