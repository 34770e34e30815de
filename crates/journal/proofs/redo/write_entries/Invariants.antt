use Rattle.std.proofs.Common.{◌≡◌, ◌+◌, ◌*◌, length, take}
use Rattle.std.specs.Prelude.{is_some}
use Rattle.eeprom.specs.Chip.{Becomes, LeavesOf}
use Rattle.eeprom.specs.OnImage.{StaysOn}
use Rattle.eeprom.specs.StoreOf.{written_directory, with_entries}
use Rattle.journal.specs.Redo.{IsRun, IsRewritten}
use Rattle.journal.specs.Run.{promised}
use Rattle.journal.proofs.redo.write_entries.Given as goal

abbrev pub invariant-loop-entry : goal.invariant-loop-entry
invariant-loop-entry g l = record {
  run : IsRun l.initial.bench.cells l.entries l.run;
  written : Becomes (λ was now. written_directory (promised l.run now) l.initial.bench.cells ≡ with_entries (take l.entry-index l.entries) (written_directory was l.initial.bench.cells)) (g.B.Eeprom.chip l.initial.bench.bench.now).image (g.B.Eeprom.chip l.bench.bench.now).image;
  told : is_some (g.B.Eeprom.chip l.bench.bench.now).image ≡ is_some (g.B.Eeprom.chip l.initial.bench.bench.now).image;
  still : (g.B.Eeprom.chip l.bench.bench.now).still ≡ (g.B.Eeprom.chip l.initial.bench.bench.now).still;
  moments : LeavesOf (IsRewritten l.initial.bench.cells l.entries) (g.B.Eeprom.chip l.initial.bench.bench.now) (g.B.Eeprom.chip l.bench.bench.now);
  octets : Becomes (λ before after. after + length l.run.octets ≡ before + 2 * l.entry-index) (g.B.Eeprom.chip l.initial.bench.bench.now).written (g.B.Eeprom.chip l.bench.bench.now).written;
  read : g.B.Eeprom.octets_read l.bench.bench.now ≡ g.B.Eeprom.octets_read l.initial.bench.bench.now;
  faults : g.B.Eeprom.faults l.bench.bench.now ≡ g.B.Eeprom.faults l.initial.bench.bench.now;
  stays : StaysOn l.initial.bench l.bench;
}
