use Rattle.std.proofs.Common.{◌≡◌, ◌+◌, ◌*◌, ◌≤◌, length, take}
use Rattle.std.specs.Prelude.{is_some}
use Rattle.eeprom.specs.Chip.{Becomes, LeavesOf}
use Rattle.eeprom.specs.OnImage.{StaysOn}
use Rattle.eeprom.specs.StoreOf.{front_size, journal_place}
use Rattle.journal.specs.Run.{SameOutside}
use Rattle.journal.proofs.Begun.{IsBegun}
use Rattle.journal.proofs.writing.write_journal.Given as goal

abbrev pub invariant-loop-entry : goal.invariant-loop-entry
invariant-loop-entry g l = record {
  behind : l.initial.bench.cells ≤ l.run.index;
  next : length l.run.octets + 2 * l.run.index ≡ 2 * l.index;
  place : l.index ≡ l.initial.bench.cells + 1 + 2 * l.entry-index;
  bound : l.entry-index ≤ length l.entries;
  written : Becomes (IsBegun l.initial.bench.cells (length l.entries) (take l.entry-index l.entries) l.run) (g.B.Eeprom.chip l.initial.bench.bench.now).image (g.B.Eeprom.chip l.bench.bench.now).image;
  told : is_some (g.B.Eeprom.chip l.bench.bench.now).image ≡ is_some (g.B.Eeprom.chip l.initial.bench.bench.now).image;
  still : (g.B.Eeprom.chip l.bench.bench.now).still ≡ (g.B.Eeprom.chip l.initial.bench.bench.now).still;
  moments : LeavesOf (SameOutside (journal_place l.initial.bench.cells) (front_size l.initial.bench.cells)) (g.B.Eeprom.chip l.initial.bench.bench.now) (g.B.Eeprom.chip l.bench.bench.now);
  octets : Becomes (λ before after. after + length l.run.octets ≡ before + (2 + 4 * l.entry-index)) (g.B.Eeprom.chip l.initial.bench.bench.now).written (g.B.Eeprom.chip l.bench.bench.now).written;
  read : g.B.Eeprom.octets_read l.bench.bench.now ≡ g.B.Eeprom.octets_read l.initial.bench.bench.now;
  faults : g.B.Eeprom.faults l.bench.bench.now ≡ g.B.Eeprom.faults l.initial.bench.bench.now;
  stays : StaysOn l.initial.bench l.bench;
}
