-- What calls do on an EEPROM that has room for an image of so many cells.
use Rattle.std.specs.Prelude.{◌≡◌, ℕ, Bool, List, Result, OnOk, is_some}
use Rattle.eeprom.specs.Chip.{Becomes, LeavesOf}
use Rattle.eeprom.specs.Fault.{Counts}
use Rattle.eeprom.specs.Frame.{Reads}
use Rattle.eeprom.specs.declared.device.Eeprom.{Ghosts}
use Rattle.eeprom.specs.declared.image_bench.ImageBench.{ImageBench}

-- the same EEPROM, for as many cells
pub record StaysOn {B : Type 0} {g : Ghosts B} (old new : ImageBench B g) : Type 0 where
  pub cells : new.cells ≡ old.cells
  pub bench : new.bench.ghost_name ≡ old.bench.ghost_name

-- A call reads so many octets, and writes none.
pub record ReadsImage {B T E : Type 0} {g : Ghosts B} (is_fault : E → Bool) (count : ℕ → ℕ → Type 0) (old new : ImageBench B g) (result : Result T E) : Type 0 where
  pub frame : Reads is_fault g.chip g.faults old.bench.now new.bench.now result
  pub octets_read : Becomes count (g.octets_read old.bench.now) (g.octets_read new.bench.now)
  pub stays : StaysOn old new

-- A call writes so many octets, and reads none. Where it succeeds this is `made` of the image, and a power loss meanwhile leaves what is `left` of it.
pub record WritesImage {B T E : Type 0} {g : Ghosts B} (made left : List ℕ → List ℕ → Type 0) (count : ℕ → ℕ → Type 0) (old new : ImageBench B g) (result : Result T E) : Type 0 where
  pub done : OnOk result (Becomes made (g.chip old.bench.now).image (g.chip new.bench.now).image)
  pub told : OnOk result (is_some (g.chip new.bench.now).image ≡ is_some (g.chip old.bench.now).image)
  pub still : (g.chip new.bench.now).still ≡ (g.chip old.bench.now).still
  pub moments : LeavesOf left (g.chip old.bench.now) (g.chip new.bench.now)
  pub octets_written : OnOk result (Becomes count (g.chip old.bench.now).written (g.chip new.bench.now).written)
  pub octets_read : g.octets_read new.bench.now ≡ g.octets_read old.bench.now
  -- A fault was counted.
  pub cause : Counts (g.faults old.bench.now) (g.faults new.bench.now) result
  pub stays : StaysOn old new
