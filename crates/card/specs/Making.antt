-- What comes of making a card, and what a loss of power leaves meanwhile.
use Rattle.std.specs.Prelude.{◌≡◌, ◌⊎◌, ◌↔◌, ◌<◌, ◌≤◌, ℕ, List, Some, Result, drop, option_map, IfSome, IsErrOf, OnOk}
use Rattle.eeprom.specs.Chip.{Chip, Keeps, Leaves}
use Rattle.eeprom.specs.Fault.{Rose}
use Rattle.eeprom.specs.Image.{overwrite}
use Rattle.eeprom.specs.StoreOf.{image_size}
use Rattle.record_store.specs.declared.refusal.FormatRefusal.{FormatRefusal}
use Rattle.record_store.specs.declared.refusal.FormatRefusal.TheVariants.{TooSmall, Fault}
use Rattle.scql_model.specs.Database.{Database, fresh}
use Rattle.scql_model.specs.Opens.{Opens}
use Rattle.card.specs.Card.{fresh_card}

-- the image opens to what the old one did
abbrev pub OpensAsBefore : Chip → List ℕ → Type 0
OpensAsBefore old left = (was : List ℕ) × (old.image ≡ Some was) × ((db : Database) → Opens left db ↔ Opens was db)

-- it opens to no database
abbrev pub OpensToNone : List ℕ → Type 0
OpensToNone left = (db : Database) → Opens left db → ⊥

-- at each moment the image opens to what the old one did, or to none, or to the fresh database; nothing is given
abbrev pub LeavesMade : ℕ → Chip → Chip → Type 0
LeavesMade n old new = Leaves (λ left. OpensAsBefore old left ⊎ (OpensToNone left ⊎ Opens left (fresh n))) old new

-- A card of so many cells was made of an EEPROM, or it wasn't.
pub record MakesCard {S : Type 0} (chip : S → Chip) (faults : S → ℕ) (n : ℕ) (before after : S) (result : Result (Unit {0}) FormatRefusal) : Type 0 where
  -- Where it was, the image is that of a fresh card, with what lies behind it as it was,
  pub image : OnOk result ((chip after).image ≡ option_map (λ octets. overwrite octets 0 (fresh_card n)) (chip before).image)
  -- and opens to the fresh database.
  pub fresh : OnOk result (IfSome (chip after).image (λ octets. Opens octets (fresh n)))
  -- Nothing is given.
  pub still : (chip after).still ≡ (chip before).still
  -- What lies behind the image is as it was, at each moment, and a power loss leaves nothing but these.
  pub behind : Keeps (drop (image_size n)) (chip before) (chip after)
  pub moments : LeavesMade n (chip before) (chip after)
  -- The EEPROM is too small exactly where the image doesn't fit, and then nothing was done.
  pub too_small : IsErrOf result TooSmall ↔ ((chip before).still.size < image_size n)
  pub unchanged : IsErrOf result TooSmall → after ≡ before
  -- Faults of the EEPROM are counted.
  pub fault : IsErrOf result Fault → Rose (faults before) (faults after)
  pub quiet : OnOk result (faults after ≡ faults before)
  pub never_falls : faults before ≤ faults after
