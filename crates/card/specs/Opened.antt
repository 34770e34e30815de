-- What comes of opening the card of an EEPROM whose image opens to a database.
use Rattle.std.specs.Prelude.{◌≡◌, ◌≤◌, ℕ, false, List, Option, Some, Result, IfOk, IfSome, IsErrOf, OnOk}
use Rattle.eeprom.specs.Chip.{Chip, Becomes}
use Rattle.eeprom.specs.Fault.{Rose}
use Rattle.eeprom.specs.StoreOf.{fewest_cells, is_gate_open}
use Rattle.cell_store.specs.Reading.{ReadsAtMost}
use Rattle.record_store.specs.Faults.{is_open_fault}
use Rattle.record_store.specs.Opening.{ReadsFront, most_octets}
use Rattle.record_store.specs.Recovery.{Recovers}
use Rattle.record_store.specs.declared.refusal.OpenRefusal.{OpenRefusal}
use Rattle.record_store.specs.declared.refusal.OpenRefusal.TheVariants.{NoMemory, NotACard, Fault}
use Rattle.scql_model.specs.Database.{Database}
use Rattle.scql_model.specs.Machine.{start}
use Rattle.scql_model.specs.Opens.{Opens}
use Rattle.card.specs.Behind.{KeepsBehind, own_cells}
use Rattle.card.specs.Card.{Kept, IsAt, IsReady}
use Rattle.card.specs.Making.{OpensToNone}
use Rattle.card.specs.Opening.{ReadsCard}

-- the EEPROM tells its image, which opens to this database
abbrev pub IsOpenTo : Chip → Database → Type 0
IsOpenTo chip db = (image : List ℕ) × (chip.image ≡ Some image) × Opens image db

-- An EEPROM that is open to this database was opened: what that is, what it leaves in the EEPROM, and how many octets had been read from it before and are after.
pub record OpensTo (db : Database) (result : Result Kept OpenRefusal) (old new : Chip) (read reads : Option ℕ) : Type 0 where
  -- A card is at the database's start.
  pub starts : IfOk result (λ card. IsAt card new (start db))
  -- Where the gate is closed as many octets are read as begin the image, and as the cells of the records have.
  pub octets_read : OnOk result (IfSome old.image (λ image. is_gate_open image ≡ false → Becomes (ReadsCard db) read reads))

-- A card was opened on an EEPROM, or it wasn't.
pub record OpensCard {S : Type 0} (chip : S → Chip) (faults : S → ℕ) (octets_read : S → Option ℕ) (before after : S) (result : Result Kept OpenRefusal) : Type 0 where
  -- Where it was, the image opens to a database, whose card it is, and the card may be asked. No card is smaller.
  pub opens : IfOk result (λ card. IfSome (chip before).image (λ image. (db : Database) × Opens image db))
  pub opened : (db : Database) → IsOpenTo (chip before) db → OpensTo db result (chip before) (chip after) (octets_read before) (octets_read after)
  pub ready : IfOk result (λ card. IsReady card (chip after))
  pub cells : IfOk result (λ card. fewest_cells ≤ card.store.chains.cells)
  -- No more is read than this, and memory is wanting only before the first record is read.
  pub most_read : Becomes (ReadsAtMost most_octets) (octets_read before) (octets_read after)
  pub no_memory : IsErrOf result NoMemory → (n : ℕ) × ReadsFront n (chip before).image (octets_read before) (octets_read after)
  -- Where it is no card, the image opens to no database.
  pub not_a_card : IsErrOf result NotACard → IfSome (chip before).image OpensToNone
  -- A power loss leaves an image that opens as before, also where it is refused; and where the gate is closed nothing is written.
  pub recovers : Recovers is_open_fault chip faults before after result
  pub behind : KeepsBehind own_cells (chip before) (chip after)
  -- Faults of the EEPROM are counted.
  pub fault : IsErrOf result Fault → Rose (faults before) (faults after)
  pub quiet : (IsErrOf result Fault → ⊥) → faults after ≡ faults before
  pub never_falls : faults before ≤ faults after
