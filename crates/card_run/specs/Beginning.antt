-- With which database a run begins, and what a power loss leaves until its card is open.
use Rattle.std.specs.Prelude.{◌≡◌, ℕ, true, List, Option, Some, IsSome, IfSome}
use Rattle.eeprom.specs.Chip.{Chip}
use Rattle.eeprom.specs.Frame.{HasRoom}
use Rattle.scql_model.specs.Database.{Database, fresh}
use Rattle.scql_model.specs.Opens.{Opens}
use Rattle.record_store.specs.Opening.{ReadsFront}
use Rattle.record_store.specs.Recovery.{KeepsStore}
use Rattle.card.specs.Making.{LeavesMade, OpensToNone}
use Rattle.card.specs.Opened.{IsOpenTo}
use Rattle.card_run.specs.declared.words.Form.{Form}
use Rattle.card_run.specs.declared.words.Form.TheVariants.{New}
use Rattle.program.specs.declared.status.Status.{Status}
use Rattle.card_run.specs.Ends.{ends_opening}
use Rattle.card_run.specs.Words.{form_in, answers_commands}

-- A run of this form over an EEPROM that tells its image begins with this database: `new` with a fresh one, for which there is room, and any other with the one to which the image opens.
abbrev pub Begins : Form → Chip → Database → Type 0
Begins (New n) chip db = IsSome chip.image × HasRoom n chip × (db ≡ fresh n)
Begins form chip db = IsOpenTo chip db

-- The words are of a form that answers commands, and over this EEPROM their run begins with this database.
pub record BeginsWith (words : List (List ℕ)) (chip : Chip) (db : Database) : Type 0 where
  pub form : Form
  pub asked : form_in words ≡ Some form
  pub reads : answers_commands form ≡ true
  pub begins : Begins form chip db

-- A run of this form asks for the card that is there, and the EEPROM tells an image that opens to no database.
abbrev pub LacksCard : Form → Chip → Type 0
LacksCard (New n) chip = ⊥
LacksCard form chip = (image : List ℕ) × (chip.image ≡ Some image) × OpensToNone image

-- The words are of a form that asks for a card where there is none.
pub record FindsNoCard (words : List (List ℕ)) (chip : Chip) : Type 0 where
  pub form : Form
  pub asked : form_in words ≡ Some form
  pub lacks : LacksCard form chip

-- Until the card is open a power loss leaves what it leaves while a card is made; or, where one is there, what it leaves while that is opened.
abbrev pub LeavesUntilOpen : Form → Chip → Chip → Type 0
LeavesUntilOpen (New n) old opened = LeavesMade n old opened
LeavesUntilOpen form old opened = KeepsStore old opened

-- The card of a run of this form is there in this state of the bench: it was made, or it was there from the start.
abbrev pub IsThere : {X : Type 0} → (X → Chip) → Form → X → X → Type 0
IsThere chip (New n) old there = LeavesMade n (chip old) (chip there) × IfSome (chip there).image (λ image. Opens image (fresh n))
IsThere chip form old there = there ≡ old

-- There was no memory to open it: of the octets of the EEPROM, which the bench counts, no more were read than stand before the first record.
pub record WantsMemory {X : Type 0} (chip : X → Chip) (octets_read : X → Option ℕ) (form : Form) (old new : X) : Type 0 where
  pub there : X
  pub is_there : IsThere chip form old there
  pub cells : ℕ
  pub front : ReadsFront cells (chip there).image (octets_read there) (octets_read new)

-- A run of this form ended before it read a line, as one ends whose card wasn't opened: the source is as it was, nothing was given, and the EEPROM is as it may be until the card is open.
pub record EndsUnread {T : Type 0} (form : Form) (status : Status) (before after : T) (old new : Chip) : Type 0 where
  pub opening : ends_opening status ≡ true
  pub source : after ≡ before
  pub given : new.still.given ≡ old.still.given
  pub leaves : LeavesUntilOpen form old new
