-- How the card of a run is opened, or isn't.
use Rattle.std.specs.Prelude.{◌≡◌, ◌⊎◌, ◌↔◌, ◌<◌, ℕ, true, Option, IsSome, IfSome, Result, OnOk, IsErrOf}
use Rattle.eeprom.specs.Chip.{Becomes, Chip}
use Rattle.eeprom.specs.Frame.{HasRoom}
use Rattle.eeprom.specs.StoreOf.{fewest_cells, image_size}
use Rattle.scql_model.specs.Database.{Database}
use Rattle.scql_model.specs.Machine.{start}
use Rattle.card.specs.Behind.{KeepsBehind, own_cells}
use Rattle.card.specs.Card.{IsAt, IsReady, Kept}
use Rattle.card.specs.Making.{OpensToNone}
use Rattle.card.specs.Opened.{IsOpenTo}
use Rattle.program.specs.declared.status.Status.{Status}
use Rattle.program.specs.declared.status.Status.TheVariants.{Eeprom, NoMemory, NotACard}
use Rattle.card_run.specs.declared.words.Form.{Form}
use Rattle.card_run.specs.declared.words.Form.TheVariants.{New}
use Rattle.card_run.specs.Beginning.{Begins, IsThere, LacksCard, LeavesUntilOpen, WantsMemory}
use Rattle.card_run.specs.Behind.{run_cells}
use Rattle.card_run.specs.Ends.{ends_opening}
use Rattle.card_run.specs.Run.{IsWithoutCard}

-- The card that a run of this form asks for is there, made or found.
pub record IsPrepared {X : Type 0} (chip : X → Chip) (form : Form) (old new : X) : Type 0 where
  -- The image opens to the database with which the run begins, and to no other.
  pub begins : (db : Database) → Begins form (chip old) db → IsOpenTo (chip new) db
  pub began : (db : Database) → IsOpenTo (chip new) db → (first : Database) × Begins form (chip old) first
  pub told : IsSome (chip old).image → IsSome (chip new).image
  pub there : IsThere chip form old new
  pub lacks : IsSome (chip old).image → IfSome (chip new).image OpensToNone → LacksCard form (chip old)
  pub cells : Becomes (λ was now. own_cells now ≡ run_cells form was) (chip old).image (chip new).image

-- It was opened.
pub record IsOpened (form : Form) (old new : Chip) (card : Kept) : Type 0 where
  -- It is at the start of the database with which the run begins, and there is one.
  pub starts : (db : Database) → Begins form old db → IsAt card new (start db)
  pub ready : IsReady card new
  pub begins : IsSome old.image → (db : Database) × Begins form old db
  pub found : LacksCard form old → ⊥
  -- No card is smaller than the smallest one. It has as many cells as its form says.
  pub room : HasRoom fewest_cells old
  pub cells : Becomes (λ was now. card.store.chains.cells ≡ run_cells form was) old.image new.image

-- It wasn't opened, and the run ends so.
pub record IsUnopened {X : Type 0} (chip : X → Chip) (octets_read : X → Option ℕ) (form : Form) (old new : X) (status : Status) : Type 0 where
  pub unopened : ends_opening status ≡ true
  -- Where a database is there to begin with, the card opens unless the EEPROM fails or there is no memory.
  pub stopped : (db : Database) → Begins form (chip old) db → (status ≡ NoMemory) ⊎ (status ≡ Eeprom)
  pub without : LacksCard form (chip old) → IsWithoutCard status
  pub not_a_card : status ≡ NotACard → IsSome (chip old).image → LacksCard form (chip old)
  pub no_memory : status ≡ NoMemory → WantsMemory chip octets_read form old new

-- What is left of the EEPROM until then, and where it isn't opened.
pub record LeavesOpening (form : Form) (old new : Chip) : Type 0 where
  pub leaves : LeavesUntilOpen form old new
  -- Nothing is written behind its image, and nothing is given.
  pub behind : KeepsBehind (run_cells form) old new
  pub still : new.still ≡ old.still

-- What is left of the bench until then, a state of which tells its chip and its EEPROM's count of faults, where too few octets are refused so.
pub record LeavesBench {X T E : Type 0} (chip : X → Chip) (faults : X → ℕ) (form : Form) (small : E) (old new : X) (result : Result T E) : Type 0 where
  pub until : LeavesOpening form (chip old) (chip new)
  -- The EEPROM has too few octets for the cells that a new card is to have; and then the bench stays.
  pub too_small : IsErrOf result small ↔ ((n : ℕ) × (form ≡ New n) × ((chip old).still.size < image_size n))
  pub unchanged : IsErrOf result small → new ≡ old
  -- Without a refusal there was no fault.
  pub quiet : OnOk result (faults new ≡ faults old)
