-- How a call ends that reads a side of a store.
use Rattle.std.specs.Prelude.{ℕ, ◌*◌, Option, Result, IfOk, IfSome}
use Rattle.eeprom.specs.Chip.{Becomes, RisesAtMost}
use Rattle.eeprom.specs.Fault.{each_error}
use Rattle.eeprom.specs.Frame.{Reads}
use Rattle.eeprom.specs.StoreOf.{Slots, cell_size}
use Rattle.scql_model.specs.Database.{Database}
use Rattle.scql_model.specs.ReadBound.{RisesAtLeast}
use Rattle.eeprom.specs.declared.device.Eeprom.{Ghosts}
use Rattle.record_store.specs.declared.side_reader.SideReader.{SideReader}
use Rattle.record_table.specs.Asking.{Holds, SameSide, octets_so_far, slots_asked}

-- A count of octets read never falls, where slots are told.
abbrev pub NeverFalls : Option Slots → Option ℕ → Option ℕ → Type 0
NeverFalls slots before after = IfSome slots (λ _. Becomes (RisesAtLeast 0) before after)

-- As many octets at most are read as so many cells of the slots have.
abbrev pub ReadsCells : (Slots → ℕ) → Option Slots → Option ℕ → Option ℕ → Type 0
ReadsCells cells slots before after = IfSome slots (λ slots. Becomes (RisesAtMost (cell_size * cells slots)) before after)

-- How a call ends that reads a side of a store, of whose slots it reads so many cells at most. What it answers is said beside this.
pub record ReadsSide {B T E : Type 0} {g : Ghosts B} (cells : Slots → ℕ) (old new : SideReader B g) (result : Result T E) : Type 0 where
  -- Without a fault the octets of these cells are read at most,
  pub octets_read : IfOk result (λ _. ReadsCells cells (slots_asked old) (octets_so_far old) (octets_so_far new))
  pub rises : IfOk result (λ _. NeverFalls (slots_asked old) (octets_so_far old) (octets_so_far new))
  -- the same side of the same store is read further, and nothing is written in any case. A fault of the EEPROM was counted.
  pub goes_on : SameSide old new
  pub frame : Reads each_error g.chip g.faults old.bench.now new.bench.now result

-- So of a side that holds a database, of whose records it reads so many cells at most.
pub record ReadsDatabase {B T E : Type 0} {g : Ghosts B} (cells : Database → ℕ) (old new : SideReader B g) (result : Result T E) : Type 0 where
  pub octets_read : (db : Database) → Holds old db → IfOk result (λ _. Becomes (RisesAtMost (cell_size * cells db)) (octets_so_far old) (octets_so_far new))
  pub rises : IfOk result (λ _. NeverFalls (slots_asked old) (octets_so_far old) (octets_so_far new))
  pub goes_on : SameSide old new
  pub frame : Reads each_error g.chip g.faults old.bench.now new.bench.now result
