-- A claim of one cell of a chain, and how many cells the chain of a record has.
use Rattle.std.specs.Prelude.{◌≡◌, ℕ, ◌*◌, ◌<◌, ◌&&◌, nat_le, true, false, List, set, Option, Some, None, if◌then◌else◌}
use Rattle.eeprom.specs.StoreOf.{cells_for, number_at, longest_record}
use Rattle.cell_store.specs.Marks.{is_marked}
use Rattle.cell_store.specs.Cells.{Cells}

-- a cell that was free is used now, and linked to this one
pub record ClaimsCell (old new : Cells) (cell next : ℕ) : Type 0 where
  pub inside : cell < 2 * old.cells
  pub free : is_marked old.used cell ≡ false
  pub used : new.used ≡ set old.used cell true
  pub links : new.links ≡ set old.links cell next

-- a cell that can't be claimed: it is used, where there is such a cell
abbrev pub IsTakenCell : Cells → ℕ → Type 0
IsTakenCell store cell = cell < 2 * store.cells → is_marked store.used cell ≡ true

-- how many cells the record has that begins a payload, where its length is one that a record may have
abbrev pub record_cells : List ℕ → Option ℕ
record_cells payload = let size = number_at payload 0 in if nat_le 1 size && nat_le size longest_record then Some (cells_for size) else None
