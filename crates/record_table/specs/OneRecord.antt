-- How it ends that one record is made, changed in its slot, or taken out of it.
use Rattle.std.specs.Prelude.{◌≡◌, ℕ, ◌<◌, [], ◌∷◌, drop, Some, Result, IfOk, IfSome, IsErrOf}
use Rattle.eeprom.specs.Chip.{Chip, Keeps}
use Rattle.eeprom.specs.Fault.{CountsFaults}
use Rattle.eeprom.specs.Frame.{Reads}
use Rattle.eeprom.specs.StoreOf.{image_size, store_of}
use Rattle.record_store.specs.Held.{Held, IsOver}
use Rattle.record_store.specs.declared.found.Found.{Found}
use Rattle.record_store.specs.declared.side.Side.TheVariants.{Committed, Working}
use Rattle.scql_base.specs.declared.words.StatusWord.{StatusWord}
use Rattle.scql_model.specs.Database.{Database}
use Rattle.scql_model.specs.Edits.{AnyRecord, removing, stamps_end}
use Rattle.catalog_codec.specs.Catalog.{counter_kind, row_kind}
use Rattle.catalog_codec.specs.Kinds.{HaveOtherMarks, Kind}
use Rattle.record_table.specs.Listed.{at_slot, slots_of}
use Rattle.record_table.specs.Making.{GoesOn, IsHeld, IsValidWith, KeepsRows, Makes, is_stop_fault}
use Rattle.record_table.specs.declared.stop.Stop.{Stop}
use Rattle.record_table.specs.declared.stop.Stop.TheVariants.{Refused, Fault}

-- the counter stands in its slot of a store, and a stamp is left that it can give out
pub record IsCounter (store : Held) (chip : Chip) (counter : Found ℕ) : Type 0 where
  pub there : counter.slot < store.chains.cells
  pub left : counter.value < stamps_end
  pub at : IfSome (slots_of store Working chip) (λ slots. Some counter.value ≡ at_slot counter_kind counter.slot slots)

-- How it ends that the counter is looked for, whose stamp the next record takes.
pub record FindsCounter {S : Type 0} (chip : S → Chip) (faults : S → ℕ) (store : Held) (before after : S) (result : Result (Found ℕ) Stop) : Type 0 where
  -- It is the counter, whose stamp is the database's next.
  pub counter : IfOk result (IsCounter store (chip before))
  pub next : (db : Database) → IsHeld store Working (chip before) db → IfOk result (λ counter. counter.value ≡ db.next)
  -- Nothing is written. A fault of the EEPROM was counted.
  pub frame : Reads is_stop_fault chip faults before after result

-- What a change of one record leaves of the store, however it ends.
pub record LeavesStore {S T : Type 0} (chip : S → Chip) (faults : S → ℕ) (before after : S) (old new : Held) (result : Result T Stop) : Type 0 where
  -- The store goes on, and where the change is refused its working slots are as they were.
  pub goes_on : ¬ IsErrOf result Fault → GoesOn old new (chip before) (chip after)
  pub refused : (word : StatusWord) → IsErrOf result (Refused word) → slots_of new Working (chip after) ≡ slots_of old Working (chip before)
  -- What is committed stays, at each moment too, and nothing is written behind the image.
  pub committed : ¬ IsErrOf result Fault → slots_of new Committed (chip after) ≡ slots_of old Committed (chip before)
  pub moments : Keeps store_of (chip before) (chip after)
  pub behind : Keeps (drop (image_size old.chains.cells)) (chip before) (chip after)
  -- A fault of the EEPROM was counted.
  pub cause : CountsFaults is_stop_fault (faults before) (faults after) result

-- The record of a kind is taken out of the slot that has it, in memory alone; `any` says of which kind it is.
pub record TakesOut {X : Type 0} (kind : Kind X) (any : X → AnyRecord) (slot : ℕ) (old new : Held) : Type 0 where
  -- The database is without it, and of another kind than a row it leaves all rows.
  pub makes : (db : Database) (was : X) (chip : Chip) → IsHeld old Working chip db → IfSome (slots_of old Working chip) (λ slots. Some was ≡ at_slot kind slot slots)
      → IsOver old chip → IsValidWith db (removing (any was) ∷ []) → Makes db (removing (any was) ∷ []) old new chip chip
  pub rows : (was : X) (chip : Chip) → HaveOtherMarks kind row_kind → IfSome (slots_of old Working chip) (λ slots. Some was ≡ at_slot kind slot slots)
      → IsOver old chip → KeepsRows (slots_of old Working chip) (slots_of new Working chip)
  -- What is committed stays, and the store goes on.
  pub committed : (chip : Chip) → IsOver old chip → slots_of new Committed chip ≡ slots_of old Committed chip
  pub goes_on : (chip : Chip) → IsOver old chip → GoesOn old new chip chip
