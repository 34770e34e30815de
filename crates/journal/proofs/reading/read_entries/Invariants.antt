use Rattle.std.proofs.Common.{◌≡◌, ◌+◌, ◌*◌, length}
use Rattle.std.specs.Prelude.{IfSome}
use Rattle.eeprom.specs.Chip.{Becomes, RisesBy}
use Rattle.eeprom.specs.OnImage.{StaysOn}
use Rattle.eeprom.specs.StoreOf.{entries_at, journal_place}
use Rattle.journal.proofs.reading.read_entries.Given as goal

abbrev pub invariant-loop-left : goal.invariant-loop-left
invariant-loop-left g l = record {
  count : length l.entries.items + l.left ≡ l.count;
  entries : IfSome (g.B.Eeprom.chip l.initial.bench.bench.now).image (λ image. l.entries.items ≡ entries_at image (journal_place l.initial.bench.cells + 2) (length l.entries.items));
  same : g.B.Eeprom.chip l.bench.bench.now ≡ g.B.Eeprom.chip l.initial.bench.bench.now;
  read : Becomes (RisesBy (4 * length l.entries.items)) (g.B.Eeprom.octets_read l.initial.bench.bench.now) (g.B.Eeprom.octets_read l.bench.bench.now);
  faults : g.B.Eeprom.faults l.bench.bench.now ≡ g.B.Eeprom.faults l.initial.bench.bench.now;
  stays : StaysOn l.initial.bench l.bench;
}

abbrev pub decreases-loop-left : goal.decreases-loop-left
decreases-loop-left g l = l.left
