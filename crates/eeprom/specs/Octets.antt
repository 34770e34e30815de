-- What a read and a write of an EEPROM do.
use Rattle.std.specs.Prelude.{◌≡◌, ℕ, ◌+◌, List, length, slice_range, Option, option_map, Result, IfSome, OnOk}
use Rattle.eeprom.specs.Chip.{Chip, Becomes, RisesBy, Writes}
use Rattle.eeprom.specs.Fault.{Counts, each_error}
use Rattle.eeprom.specs.Frame.{Reads}
use Rattle.eeprom.specs.Image.{overwrite}

-- A read of as many octets as a buffer has, from a place on, which are got into it.
pub record ReadsOctets {S T E : Type 0} (chip : S → Chip) (octets_read : S → Option ℕ) (faults : S → ℕ) (at : ℕ) (buffer got : List ℕ) (old new : S) (result : Result T E) : Type 0 where
  -- They are those of the image.
  pub octets : OnOk result (IfSome (chip old).image (λ image. got ≡ slice_range image at (at + length buffer)))
  -- Nothing is written, whatever is answered, and faults are counted.
  pub frame : Reads each_error chip faults old new result
  -- So many more were asked for.
  pub read : Becomes (RisesBy (length buffer)) (octets_read old) (octets_read new)

-- A write of octets from a place on.
pub record WritesOctets {S T E : Type 0} (chip : S → Chip) (octets_read : S → Option ℕ) (faults : S → ℕ) (at : ℕ) (octets : List ℕ) (old new : S) (result : Result T E) : Type 0 where
  -- The image has them there,
  pub written : OnOk result ((chip new).image ≡ option_map (λ image. overwrite image at octets) (chip old).image)
  -- and where it fails anything in their range.
  pub writes : Writes at octets (chip old) (chip new)
  -- Nothing is read,
  pub read : octets_read new ≡ octets_read old
  -- and a fault is counted.
  pub cause : Counts (faults old) (faults new) result
