use Rattle.std.proofs.Common.{◌≡◌, ◌*◌, ℕ, List, Some, length, IfSome}
use Rattle.eeprom.specs.Chip.{Becomes}
use Rattle.eeprom.specs.StoreOf.{chain_of}
use Rattle.cell_store.specs.Cells.{cells_from}
use Rattle.cell_store.specs.Claiming.{record_cells}
use Rattle.cell_store.specs.Reading.{ReadsCells}
use Rattle.cell_store.specs.Walk.{Walked}
use Rattle.cell_store.proofs.Claiming.{Claiming}
use Rattle.cell_store.proofs.claims.claim_cells.Given as goal

abbrev pub invariant-loop-cell : goal.invariant-loop-cell
invariant-loop-cell g l = record {
  claiming : Claiming (cells_from l.cells l.fn.used l.fn.links) (cells_from l.cells l.used l.links) (g.B.Eeprom.chip l.fn.bench).image l.first l._cell l.next;
  walked : IfSome (g.B.Eeprom.chip l.fn.bench).image (λ image. (chain : List ℕ) → chain_of image l.cells (2 * l.cells) l.first ≡ Some chain
      → Walked l.cells chain l.next l.payload.items l._cell image);
  size : length l.payload.items ≡ 30 * l._cell;
  front : record_cells l.payload.items ≡ Some l.count;
  read : Becomes (ReadsCells l._cell) (g.B.Eeprom.octets_read l.fn.bench) (g.B.Eeprom.octets_read l.bench);
  used : length l.used ≡ 2 * l.cells;
  links : length l.links ≡ 2 * l.cells;
  same : g.B.Eeprom.chip l.bench ≡ g.B.Eeprom.chip l.fn.bench;
  faults : g.B.Eeprom.faults l.bench ≡ g.B.Eeprom.faults l.fn.bench;
}
