-- How a call ends that reads rows by a reader.
use Rattle.std.specs.Prelude.{ℕ, Bool, List, Option, Result, IfOk, IfSome}
use Rattle.eeprom.specs.Chip.{Becomes}
use Rattle.eeprom.specs.Fault.{each_error}
use Rattle.eeprom.specs.StoreOf.{Slots}
use Rattle.eeprom.specs.declared.device.Eeprom.{Ghosts}
use Rattle.scql_base.specs.declared.records.RowRecord.{RowRecord}
use Rattle.scql_model.specs.Objects.{StampedRow}
use Rattle.cursor.specs.Costs.{Cost, RisesBetween}
use Rattle.db_read.specs.Chosen.{costs_shown, rows_shown}
use Rattle.db_read.specs.Costs.{least_of, row_read}
use Rattle.db_read.specs.Reader.{ReadsOn, read_so_far, slots_read}
use Rattle.db_read.specs.Told.{TellsRows}
use Rattle.db_read.specs.declared.chosen.Chosen.{Chosen}
use Rattle.db_read.specs.declared.reader.Reader.{Reader}
use Rattle.db_read.specs.declared.telling.Told.{Told}

module _ {B E : Type 0} {g : Ghosts B} where
  -- It reads one row into a place, and answers whether there is one.
  pub record ReadsRow (place : RowRecord) (is : Option RowRecord → Slots → Type 0) (cost : Option RowRecord → Slots → ℕ) (old new : Reader B g) (result : Result Bool E) : Type 0 where
    -- The row, or that there is none, is so as the slots have it,
    pub row : IfOk result (λ there. IfSome (slots_read old) (is (row_read there place)))
    -- and at most so many octets are read as that costs, at least those of the row.
    pub octets_read : IfOk result (λ there. IfSome (slots_read old) (λ slots. Becomes (RisesBetween (least_of (row_read there place)) (cost (row_read there place) slots)) (read_so_far old) (read_so_far new)))
    pub reads : ReadsOn each_error old new result

  -- It reads rows of which a cursor shows some: what it answers is so of those that are shown, and costs between so much and so much of what the table's cost.
  pub record ReadsShown {T : Type 0} (chosen : Chosen) (is : T → List StampedRow → Type 0) (least : T → ℕ) (cost : T → List Cost → ℕ) (old new : Reader B g) (result : Result T E) : Type 0 where
    pub rows : IfOk result (λ x. IfSome (rows_shown chosen (slots_read old)) (is x))
    pub octets_read : IfOk result (λ x. IfSome (costs_shown chosen (slots_read old)) (λ costs. Becomes (RisesBetween (least x) (cost x costs)) (read_so_far old) (read_so_far new)))
    pub reads : ReadsOn each_error old new result

  -- It reads rows of a dictionary: what it answers is so of those that are told.
  pub record ReadsTold {T : Type 0} (told : Told) (is : T → List StampedRow → Type 0) (old new : Reader B g) (result : Result T E) : Type 0 where
    pub rows : IfOk result (λ x. (rows : List StampedRow) → TellsRows told old.store.now old.side (g.chip old.bench.now) rows → is x rows)
    pub reads : ReadsOn each_error old new result
