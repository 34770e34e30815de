-- What every call leaves of a feed of rows.
use Rattle.std.specs.Prelude.{◌≡◌, ℕ, List, Option, Result, IfOk, IfSome}
use Rattle.eeprom.specs.Chip.{Chip, Becomes}
use Rattle.eeprom.specs.Fault.{each_error}
use Rattle.eeprom.specs.Frame.{Reads}
use Rattle.scql_model.specs.Objects.{StampedRow}
use Rattle.cursor.specs.Costs.{Cost, RisesBetween}

-- Its rows, what they cost and what else it keeps stay; nothing is written, whatever is answered, and faults are counted.
pub record Stays {S K T E : Type 0} (tells : S → List StampedRow → Type 0) (costs : S → Option (List Cost)) (kept : S → K) (chip : S → Chip) (faults : S → ℕ) (old new : S) (result : Result T E) : Type 0 where
  pub same_rows : (rows : List StampedRow) → tells old rows → tells new rows
  pub same_costs : costs new ≡ costs old
  pub same_rest : kept new ≡ kept old
  pub frame : Reads each_error chip faults old new result

-- A call reads a feed: what it answers tells at least and at most how many octets, and all else stays.
pub record ReadsRows {S K T E : Type 0} (tells : S → List StampedRow → Type 0) (costs : S → Option (List Cost)) (kept : S → K) (chip : S → Chip) (octets_read : S → Option ℕ) (faults : S → ℕ) (old new : S) (result : Result T E) (least : T → ℕ) (most : T → List Cost → ℕ) : Type 0 where
  pub read : IfOk result (λ x. IfSome (costs old) (λ told. Becomes (RisesBetween (least x) (most x told)) (octets_read old) (octets_read new)))
  pub stays : Stays tells costs kept chip faults old new result
