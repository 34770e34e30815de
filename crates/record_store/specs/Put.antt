-- What putting a record makes of a store, and taking one out of it.
use Rattle.std.specs.Prelude.{◌≡◌, ℕ, ◌+◌, ◌*◌, ◌<◌, ◌≤◌, Bool, List, length, drop, Option, None, Some, Result, IsTrue, IfSome, IfOk, OnOk, IsErrOf, is_some, option_map, slice_set}
use Rattle.eeprom.specs.Chip.{Chip, Becomes, RisesBy, Keeps}
use Rattle.eeprom.specs.Fault.{CountsFaults}
use Rattle.eeprom.specs.StoreOf.{no_cell, Slots, cells_for, cell_size, image_size, longest_record, store_of}
use Rattle.cell_store.specs.Marks.{StaysMarked}
use Rattle.record_store.specs.Faults.{is_put_fault}
use Rattle.record_store.specs.Held.{Held, IsOver, contents, record_at, StandsFor}
use Rattle.record_store.specs.Slots.{steps_without}
use Rattle.record_store.specs.Transaction.{ChangesOnly, entries}
use Rattle.eeprom.specs.StoreOf.{weight_of}
use Rattle.record_store.specs.declared.refusal.StoreRefusal.{StoreRefusal}
use Rattle.record_store.specs.declared.refusal.StoreRefusal.TheVariants.{Full}
use Rattle.record_store.specs.declared.side.Side.TheVariants.{Committed, Working}

-- the working record of a slot is these octets, and all else is as it was
pub record IsPut (old new : Held) (slot : ℕ) (octets : List ℕ) (was now : List ℕ) : Type 0 where
  pub stands : StandsFor new now
  pub committed : contents new Committed now ≡ contents old Committed was
  pub working : contents new Working now ≡ option_map (λ slots. slice_set slots slot (Some octets)) (contents old Working was)

-- the working slot is empty, and all else is as it was
pub record IsRemoved (old new : Held) (slot : ℕ) (image : List ℕ) : Type 0 where
  pub stands : StandsFor new image
  pub committed : contents new Committed image ≡ contents old Committed image
  pub working : contents new Working image ≡ option_map (λ slots. slice_set slots slot None) (contents old Working image)

-- the cells that the working records would have with these octets in a slot
abbrev pub weight_with : ℕ → List ℕ → Slots → ℕ
weight_with slot octets slots = weight_of (slice_set slots slot (Some octets))

-- they are no more than the store has
abbrev pub IsWithin : Held → ℕ → List ℕ → List ℕ → Type 0
IsWithin held slot octets image = IfSome (contents held Working image) (λ slots. weight_with slot octets slots ≤ held.chains.cells)

-- the cells with these octets in the slot that is named, or else in one more
abbrev pub weight_after : Option ℕ → List ℕ → Slots → ℕ
weight_after None octets slots = weight_of slots + cells_for (length octets)
weight_after (Some slot) octets slots = weight_with slot octets slots

-- they are more than the store has
abbrev pub IsFull : Held → Option ℕ → List ℕ → List ℕ → Type 0
IsFull held slot octets image = IfSome (contents held Working image) (λ slots. held.chains.cells < weight_after slot octets slots)

-- a slot was emptied, and these cells are used then
abbrev pub emptied : Held → ℕ → List Bool → Held
emptied held slot used = record held { chains = record held.chains { used = used }; working = slice_set held.working slot no_cell }

-- The record was taken out of a slot of the working side, where there was one,
pub record Removes (slot : ℕ) (old new : Held) : Type 0 where
  -- whatever image the store stands for,
  pub removed : (image : List ℕ) → StandsFor old image → IsRemoved old new slot image
  -- and the transaction, the number of cells and the limit of rows are as they were.
  pub begun : new.begun ≡ old.begun
  pub cells : new.chains.cells ≡ old.chains.cells
  pub rows : new.row_limit ≡ old.row_limit
  -- The slot alone is emptied, and cells may be freed, but none is taken.
  pub emptied : new ≡ emptied old slot new.chains.used
  pub fewer : StaysMarked new.chains.used old.chains.used
  pub only : ChangesOnly slot old new
  pub entries : entries new ≤ entries old + 1

-- A record is put into a slot of the working side, the one that is named or else an empty one.
pub record Puts {S : Type 0} (chip : S → Chip) (faults : S → ℕ) (slot : Option ℕ) (octets : List ℕ) (old new : Held) (before after : S) (result : Result ℕ StoreRefusal) : Type 0 where
  pub named : IfOk result (λ found. IfSome slot (λ slot. found ≡ slot))
  pub empty : IfOk result (λ found. slot ≡ None → IfSome (chip before).image (λ image. record_at old Working found image ≡ None))
  pub there : IfOk result (λ found. found < old.chains.cells)
  pub put : IfOk result (λ found. Becomes (IsPut old new found octets) (chip before).image (chip after).image)
  pub within : IfOk result (λ found. IfSome (chip before).image (IsWithin old found octets))
  -- It is refused only where the records would have more cells than there are, and then nothing is done.
  pub full : IsErrOf result Full → IfSome (chip before).image (IsFull old slot octets)
  pub unchanged : IsErrOf result Full → (new ≡ old) × (after ≡ before)
  pub told : OnOk result (is_some (chip after).image ≡ is_some (chip before).image)
  -- The transaction, the number of cells and the limit of rows are as they were.
  pub begun : OnOk result (new.begun ≡ old.begun)
  pub cells : OnOk result (new.chains.cells ≡ old.chains.cells)
  pub rows : OnOk result (new.row_limit ≡ old.row_limit)
  -- The cells of the record are written, and nothing else.
  pub octets_written : OnOk result (Becomes (RisesBy (cell_size * cells_for (length octets))) (chip before).written (chip after).written)
  pub only : IfOk result (λ found. ChangesOnly found old new)
  pub entries : OnOk result (entries new ≤ entries old + 1)
  -- What is committed stays, at each moment, and so does what is behind the image.
  pub moments : Keeps store_of (chip before) (chip after)
  pub behind : Keeps (drop (image_size old.chains.cells)) (chip before) (chip after)
  pub cause : CountsFaults is_put_fault (faults before) (faults after) result

-- A record may be put: a transaction was begun in a store over this EEPROM, the slot is one of its slots, and the record isn't empty nor too long.
pub record MayPut (named : Option ℕ) (octets : List ℕ) (held : Held) (chip : Chip) : Type 0 where
  pub begun : IsTrue held.begun
  pub slot : IfSome named (λ slot. slot < held.chains.cells)
  pub some : 1 ≤ length octets
  pub most : length octets ≤ longest_record
  pub over : IsOver held chip

-- A record may be taken out of a slot: a transaction was begun, and there is such a slot.
pub record MayRemove (place : ℕ) (held : Held) : Type 0 where
  pub begun : IsTrue held.begun
  pub slot : place < held.chains.cells

-- The other working records have so many cells.
pub record MayTakeOut (place others : ℕ) (held : Held) : Type 0 where
  pub begun : IsTrue held.begun
  pub slot : place < held.chains.cells
  pub weight : others ≡ steps_without held.chains.links held.working place
