use Rattle.std.proofs.Common.{◌≡◌, ◌⊎◌, ◌-◌, ◌*◌, ◌≤◌, ◌<◌, length}
use Rattle.std.specs.Prelude.{is_some}
use Rattle.eeprom.specs.Chip.{Becomes, RisesBy}
use Rattle.cell_store.specs.Marks.{StaysMarked, unmarked}
use Rattle.cell_store.specs.Placed.{IsPlaced, IsLaid, KeepsMarked}
use Rattle.cell_store.proofs.placing.write_cells.Given as goal

abbrev pub invariant-loop-left : goal.invariant-loop-left
invariant-loop-left g l = record {
  marks : length l.marks ≡ 2 * l.cells;
  links : length l.links ≡ 2 * l.cells;
  within : l.left ≤ l.count;
  free : l.left ≤ unmarked l.marks;
  first : (l.left ≡ l.count) ⊎ (l.first < 2 * l.cells);
  stays : StaysMarked l.initial.marks l.marks;
  placed : Becomes (IsPlaced l.cells l.initial.marks l.marks l.payload l.left l.count l.first l.links) (g.B.Eeprom.chip l.initial.bench).image (g.B.Eeprom.chip l.bench).image;
  laid : IsLaid l.cells l.initial.marks l.marks l.left l.count l.first l.initial.links l.links;
  written : Becomes (RisesBy (32 * (l.count - l.left))) (g.B.Eeprom.chip l.initial.bench).written (g.B.Eeprom.chip l.bench).written;
  moments : KeepsMarked l.initial.marks l.cells (g.B.Eeprom.chip l.initial.bench) (g.B.Eeprom.chip l.bench);
  told : is_some (g.B.Eeprom.chip l.bench).image ≡ is_some (g.B.Eeprom.chip l.initial.bench).image;
  faults : g.B.Eeprom.faults l.bench ≡ g.B.Eeprom.faults l.initial.bench;
}

abbrev pub decreases-loop-left : goal.decreases-loop-left
decreases-loop-left g l = l.left
