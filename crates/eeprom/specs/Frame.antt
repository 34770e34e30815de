-- What the calls of a store need of its EEPROM, and what those leave that only read.
use Rattle.std.specs.Prelude.{◌≡◌, ℕ, ◌≤◌, Bool, Result}
use Rattle.eeprom.specs.Chip.{Chip}
use Rattle.eeprom.specs.Fault.{CountsFaults}
use Rattle.eeprom.specs.StoreOf.{image_size}

-- an image of so many cells fits into the EEPROM
abbrev pub HasRoom : ℕ → Chip → Type 0
HasRoom n chip = image_size n ≤ chip.still.size

-- A call reads: nothing is written, whatever is answered, and faults are counted.
pub record Reads {S T E : Type 0} (is_fault : E → Bool) (chip : S → Chip) (faults : S → ℕ) (old new : S) (result : Result T E) : Type 0 where
  pub same : chip new ≡ chip old
  pub counts : CountsFaults is_fault (faults old) (faults new) result
