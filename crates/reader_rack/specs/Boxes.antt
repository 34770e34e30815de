-- A card behind a link of any kind.
use Rattle.std.specs.Prelude.{IfSome}
use Rattle.eeprom.specs.Chip.{Chip}
use Rattle.scql_model.specs.Machine.{Machine}
use Rattle.scql_model.specs.Opens.{Opens}
use Rattle.card_link.specs.Link.{HasValidData}

-- A link is at a machine, whose databases are valid, and the image, where told, opens to the committed one.
pub record IsAtOver (at : Machine → Type 0) (chip : Chip) (m : Machine) : Type 0 where
  pub says : at m
  pub over : HasValidData m
  pub opens : IfSome chip.image (λ image. Opens image m.committed)
