-- An image fits into an EEPROM in one way, so that a type may keep that it does.
use Rattle.std.specs.Prelude.{ℕ}
use Rattle.std.proofs.Props.{props}
use Rattle.eeprom.specs.Chip.{Chip}
use Rattle.eeprom.specs.Calls.{FitsInto}

pub FitsInto-prop : (n : ℕ) (chip : Chip) → IsProp (FitsInto n chip)
FitsInto-prop n chip = Prim.hlevel props
