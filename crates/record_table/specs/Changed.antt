-- One slot is changed: a record is added, another takes its place, or it is removed.
use Rattle.std.specs.Prelude.{IsTrue, ◌≡◌, ℕ, ◌+◌, ◌*◌, ◌<◌, ◌≤◌, List, Option, Some, None, Result, IfOk, IfSome, IsErrOf, OnOk, is_some, length, drop, slice_index_or, slice_set}
use Rattle.eeprom.specs.Chip.{Chip, Becomes, Keeps, RisesBy}
use Rattle.eeprom.specs.Fault.{CountsFaults}
use Rattle.eeprom.specs.StoreOf.{Slots, cell_size, cells_for, image_size, store_of}
use Rattle.record_store.specs.Faults.{is_put_fault}
use Rattle.record_store.specs.Held.{Held, IsOver, StandsFor, contents}
use Rattle.record_store.specs.Put.{IsFull, IsWithin}
use Rattle.record_store.specs.Transaction.{ChangesOnly, entries}
use Rattle.record_store.specs.declared.refusal.StoreRefusal.{StoreRefusal}
use Rattle.record_store.specs.declared.refusal.StoreRefusal.TheVariants.{Full}
use Rattle.record_store.specs.declared.side.Side.TheVariants.{Committed, Working}
use Rattle.catalog_codec.specs.Kinds.{Kind}

-- a store is in a transaction, over its EEPROM
pub record IsBegunOver (store : Held) (chip : Chip) : Type 0 where
  pub begun : IsTrue store.begun
  pub over : IsOver store chip

-- a slot that was empty has the record, and all others are as they were
pub record IsAdded {X : Type 0} (kind : Kind X) (x : X) (slot : ℕ) (old new : Slots) : Type 0 where
  pub empty : slice_index_or old slot None ≡ None
  pub is : new ≡ slice_set old slot (Some (kind.form.spell x))

-- the slot has the record in the place of what it had, and all others are as they were
abbrev pub IsChanged : {X : Type 0} → Kind X → X → ℕ → Slots → Slots → Type 0
IsChanged {X} kind x slot old new = new ≡ slice_set old slot (Some (kind.form.spell x))

-- the slot is empty, and all others are as they were
abbrev pub IsEmptied : ℕ → Slots → Slots → Type 0
IsEmptied slot old new = new ≡ slice_set old slot None

-- the working records go one step on, and what is committed stays
pub record Rewrites (step : Slots → Slots → Type 0) (old new : Held) (was now : List ℕ) : Type 0 where
  pub stands : StandsFor new now
  pub committed : contents new Committed now ≡ contents old Committed was
  pub working : (before : Slots) → contents old Working was ≡ Some before → (after : Slots) × (contents new Working now ≡ Some after) × step before after

-- How it ends that a record of these octets is put into a slot: `step` is what that makes of the slots, `asked` the slot that is asked for, or none, and `slot` the one that has the record then.
pub record Puts {S T : Type 0} (chip : S → Chip) (faults : S → ℕ) (step : T → Slots → Slots → Type 0) (asked : Option ℕ) (slot : T → ℕ) (octets : List ℕ) (before after : S) (old new : Held) (result : Result T StoreRefusal) : Type 0 where
  -- There is room, and the slots have the record,
  pub put : IfOk result (λ answer. Becomes (Rewrites (step answer) old new) (chip before).image (chip after).image)
  pub there : IfOk result (λ answer. slot answer < old.chains.cells)
  pub within : IfOk result (λ answer. IfSome (chip before).image (IsWithin old (slot answer) octets))
  -- or there is none, and nothing is changed.
  pub full : IsErrOf result Full → IfSome (chip before).image (IsFull old asked octets)
  pub unchanged : IsErrOf result Full → (new ≡ old) × (after ≡ before)
  -- The store goes on over its EEPROM.
  pub over : OnOk result (IsOver new (chip after))
  pub told : OnOk result (is_some (chip after).image ≡ is_some (chip before).image)
  pub begun : OnOk result (new.begun ≡ old.begun)
  pub cells : OnOk result (new.chains.cells ≡ old.chains.cells)
  pub rows : OnOk result (new.row_limit ≡ old.row_limit)
  pub only : IfOk result (λ answer. ChangesOnly (slot answer) old new)
  pub entries : OnOk result (entries new ≤ entries old + 1)
  -- The record's cells alone are written. At no moment has the image another store, and nothing is written behind it.
  pub octets_written : OnOk result (Becomes (RisesBy (cell_size * cells_for (length octets))) (chip before).written (chip after).written)
  pub moments : Keeps store_of (chip before) (chip after)
  pub behind : Keeps (drop (image_size old.chains.cells)) (chip before) (chip after)
  -- A fault of the EEPROM was counted.
  pub cause : CountsFaults is_put_fault (faults before) (faults after) result

-- The record is taken out of a slot, in memory alone.
pub record Empties (slot : ℕ) (old new : Held) : Type 0 where
  -- The slot is emptied, and what is committed stays. The store goes on over its EEPROM.
  pub removed : (image : List ℕ) → StandsFor old image → Rewrites (IsEmptied slot) old new image image
  pub over : (chip : Chip) → IsOver old chip → IsOver new chip
  pub begun : new.begun ≡ old.begun
  pub cells : new.chains.cells ≡ old.chains.cells
  pub rows : new.row_limit ≡ old.row_limit
  -- No other slot has another chain, and this one is an entry of a commit at most.
  pub only : ChangesOnly slot old new
  pub entries : entries new ≤ entries old + 1
