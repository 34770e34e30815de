-- A change of the database that a store holds, by edits: what it makes, and how it ends.
use Rattle.std.specs.Prelude.{◌≡◌, ℕ, ◌+◌, ◌≤◌, Bool, true, false, List, length, Option, Some, Result, Ok, Err, is_some}
use Rattle.eeprom.specs.Chip.{Chip, Becomes, RisesAtMost}
use Rattle.eeprom.specs.StoreOf.{Slots}
use Rattle.eeprom.specs.declared.fault.EepromFault.{EepromFault}
use Rattle.record_store.specs.Held.{Held, IsOver}
use Rattle.record_store.specs.Transaction.{entries}
use Rattle.record_store.specs.declared.side.Side.{Side}
use Rattle.record_store.specs.declared.side.Side.TheVariants.{Committed, Working}
use Rattle.scql_base.specs.declared.words.StatusWord.{StatusWord}
use Rattle.scql_model.specs.Database.{Database, IsValid}
use Rattle.scql_model.specs.Edits.{Edit, applied, cells_written, lacks_room, octets_for_cells, touched, with_edits}
use Rattle.scql_model.specs.Refusals.{◌>>=◌}
use Rattle.catalog_codec.specs.Kinds.{Kind}
use Rattle.catalog_codec.specs.Catalog.{counter_kind, row_kind}
use Rattle.record_table.specs.Changed.{IsAdded, IsChanged}
use Rattle.record_table.specs.Listed.{at_slot, slots_of}
use Rattle.record_table.specs.Touching.{Touches}
use Rattle.scql_model.specs.Opens.{Holds}
use Rattle.record_table.specs.declared.stop.Stop.{Stop}
use Rattle.record_table.specs.declared.stop.Stop.TheVariants.{Refused, Fault}

-- A side of a store holds a valid database with the store's cells and row limit, where its image is told.
pub record IsHeld (store : Held) (side : Side) (chip : Chip) (db : Database) : Type 0 where
  pub slots : Slots
  pub told : slots_of store side chip ≡ Some slots
  pub cells : db.cells ≡ store.chains.cells
  pub limit : db.limit ≡ store.row_limit
  pub holds : Holds slots db
  pub valid : IsValid db

-- The working database has these edits, for which there was room; what is committed stays. At most as many octets were written as the cells of the records
-- that were added or changed have, and nothing where these have none; and each record that was touched is an entry at most of a commit. Other chains are only
-- in the slots of these records.
pub record Makes (db : Database) (edits : List Edit) (old new : Held) (before after : Chip) : Type 0 where
  pub room : lacks_room db edits ≡ false
  pub held : IsHeld new Working after (applied db edits)
  pub committed : slots_of new Committed after ≡ slots_of old Committed before
  pub octets : Becomes (RisesAtMost (octets_for_cells (cells_written edits))) before.written after.written
  pub entries : entries new ≤ entries old + length (touched edits)
  pub unwritten : cells_written edits ≡ 0 → after ≡ before
  pub touches : (was now : Slots) → slots_of old Working before ≡ Some was → slots_of new Working after ≡ Some now → Touches (touched edits) db.next was now old new

-- the database with the edits is valid, where there is room for them
abbrev pub IsValidWith : Database → List Edit → Type 0
IsValidWith db edits = lacks_room db edits ≡ false → IsValid (applied db edits)

-- How an operation ends on the working side, of which these are the edits or the first refusal: its edits are made; or it is refused, also where there is
-- no room for them, and nothing was done; or the EEPROM failed.
abbrev pub Ends : {T : Type 0} → Database → Result (List Edit) StatusWord → Result T Stop → Held → Held → Chip → Chip → Type 0
Ends {T} db outcome (Ok x) old new before after = (edits : List Edit) × (outcome ≡ Ok edits) × Makes db edits old new before after
Ends {T} db outcome (Err (Refused word)) old new before after = ((outcome >>= with_edits db) ≡ Err word) × (new ≡ old) × (after ≡ before)
Ends {T} db outcome (Err Fault) old new before after = Unit {0}

-- The store goes on, whatever its EEPROM tells: begun as before, with as many cells and the same row limit, over an EEPROM that tells as much.
pub record GoesOn (old new : Held) (before after : Chip) : Type 0 where
  pub begun : new.begun ≡ old.begun
  pub cells : new.chains.cells ≡ old.chains.cells
  pub rows : new.row_limit ≡ old.row_limit
  pub told : is_some after.image ≡ is_some before.image
  pub over : IsOver new after

-- a stop that is the EEPROM's fault
abbrev pub is_stop_fault : Stop → Bool
is_stop_fault (Refused word) = false
is_stop_fault Fault = true

-- what is answered to a command that stopped
abbrev pub stop_answer : Stop → Result StatusWord EepromFault
stop_answer (Refused word) = Ok word
stop_answer Fault = Err (record {})

-- a record was added in a slot, and then the counter in another slot counts on to the next stamp
pub record IsMade {X : Type 0} (kind : Kind X) (x : X) (slot counter next : ℕ) (old new : Slots) : Type 0 where
  pub between : Slots
  pub added : IsAdded kind x slot old between
  pub counted : IsChanged counter_kind next counter between new

-- every row of the slots stays in its slot, and no other slot has one
abbrev pub KeepsRows : Option Slots → Option Slots → Type 0
KeepsRows old new = Becomes (λ before after. (slot : ℕ) → at_slot row_kind slot after ≡ at_slot row_kind slot before) old new
