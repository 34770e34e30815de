-- A store stands over its EEPROM in one way, so that a type may keep that it does.
use Rattle.std.specs.Prelude.{List, ℕ}
use Rattle.std.proofs.Props.{props}
use Rattle.eeprom.specs.Chip.{Chip}
use Rattle.record_store.specs.Held.{Held, IsOver, StandsFor}

StandsFor-prop : (held : Held) (image : List ℕ) → IsProp (StandsFor held image)
StandsFor-prop held image = Prim.hlevel props

pub IsOver-prop : (held : Held) (chip : Chip) → IsProp (IsOver held chip)
IsOver-prop held chip = Prim.hlevel (props, StandsFor-prop)
