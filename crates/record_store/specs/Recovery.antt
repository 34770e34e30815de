-- What the opening of a store leaves of an image.
use Rattle.std.specs.Prelude.{◌≡◌, ℕ, Bool, false, Result, IfSome}
use Rattle.eeprom.specs.Chip.{Chip, Keeps, LeavesOf}
use Rattle.eeprom.specs.Fault.{CountsFaults}
use Rattle.eeprom.specs.StoreOf.{store_of, is_gate_open, number_at}
use Rattle.journal.specs.Journal.{KeepsDirectory}

-- A journal may be replayed: at each moment the image has the store that it had, or none where it had none, and nothing is given. Where the
-- gate is closed nothing is written. Of each image, also of one that is refused, the directory in force stays, and so do all octets but those of
-- the gate, the directory and the journal, by the number of cells in its header.
pub record KeepsStore (old new : Chip) : Type 0 where
  pub keeps : Keeps store_of old new
  pub rest : LeavesOf (λ was left. KeepsDirectory (number_at was 6) was left) old new
  pub closed : IfSome old.image (λ image. is_gate_open image ≡ false → new ≡ old)

-- the same whatever is answered, and faults are counted
pub record Recovers {S T E : Type 0} (is_fault : E → Bool) (chip : S → Chip) (faults : S → ℕ) (old new : S) (result : Result T E) : Type 0 where
  pub store : KeepsStore (chip old) (chip new)
  pub counts : CountsFaults is_fault (faults old) (faults new) result
