-- What the parts of a store need of its EEPROM, how their calls end that only read, and how those end that only write.
use Rattle.std.specs.Prelude.{◌≡◌, ℕ, ◌≤◌, Bool, List, Option, Result, OnOk, is_some}
use Rattle.eeprom.specs.Chip.{Chip, Becomes, LeavesOf}
use Rattle.eeprom.specs.Fault.{Counts}
use Rattle.eeprom.specs.Frame.{HasRoom, Reads}
use Rattle.eeprom.specs.StoreOf.{most_cells}

-- A store may have so many cells, and its image fits into the EEPROM.
pub record FitsInto (n : ℕ) (chip : Chip) : Type 0 where
  pub many : n ≤ most_cells
  pub room : HasRoom n chip

-- A call reads so many octets, and writes none.
pub record ReadsOnly {S T E : Type 0} (is_fault : E → Bool) (chip : S → Chip) (faults : S → ℕ) (octets : S → Option ℕ) (count : ℕ → ℕ → Type 0) (old new : S) (result : Result T E) : Type 0 where
  pub frame : Reads is_fault chip faults old new result
  pub octets_read : Becomes count (octets old) (octets new)

-- A call writes so many octets, and reads none. Where it succeeds this is `made` of the image, and a power loss meanwhile leaves what is `left` of it.
pub record WritesOnly {S T E : Type 0} (chip : S → Chip) (faults : S → ℕ) (octets : S → Option ℕ) (made left : List ℕ → List ℕ → Type 0) (count : ℕ → ℕ → Type 0) (old new : S) (result : Result T E) : Type 0 where
  pub done : OnOk result (Becomes made (chip old).image (chip new).image)
  pub told : OnOk result (is_some (chip new).image ≡ is_some (chip old).image)
  pub still : (chip new).still ≡ (chip old).still
  pub moments : LeavesOf left (chip old) (chip new)
  pub octets_written : OnOk result (Becomes count (chip old).written (chip new).written)
  pub octets_read : octets new ≡ octets old
  -- A fault was counted.
  pub cause : Counts (faults old) (faults new) result
