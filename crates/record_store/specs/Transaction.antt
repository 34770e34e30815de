-- What a transaction's beginning and end make of a store.
use Rattle.std.specs.Prelude.{◌≡◌, ◌⊎◌, ℕ, ◌+◌, ◌*◌, ◌==◌, Bool, true, false, List, drop, slice_index, Result, OnOk, OnErr, IsTrue, is_some}
use Rattle.eeprom.specs.Chip.{Chip, Becomes, RisesBy, Keeps, LeavesOf}
use Rattle.eeprom.specs.Fault.{Counts}
use Rattle.eeprom.specs.StoreOf.{store_of, image_size}
use Rattle.record_store.specs.Held.{Held, IsOver, firsts, contents, stored, StandsFor}
use Rattle.record_store.specs.Tags.{both_sides}
use Rattle.record_store.specs.Slots.{changed}
use Rattle.record_store.specs.declared.side.Side.TheVariants.{Committed, Working}

-- a transaction is begun: the working records are those that were committed
abbrev pub begun_from : Held → Held
begun_from held = record held { working = held.committed; begun = true; tags = both_sides held.tags.committed }

-- how many entries a commit would write now: one for each slot in which another chain begins
abbrev pub entries : Held → ℕ
entries held = changed held.committed (firsts held Working)

-- a slot's working chain begins where it did
abbrev pub KeepsChain : ℕ → Held → Held → Type 0
KeepsChain slot old new = slice_index (firsts new Working) slot ≡ slice_index (firsts old Working) slot

-- Only slots that pass a test may have another working chain, and none has another committed one.
pub record ChangesWhere (may : ℕ → Bool) (old new : Held) : Type 0 where
  pub committed : new.committed ≡ old.committed
  pub others : (slot : ℕ) → may slot ≡ false → KeepsChain slot old new

-- one slot alone may have another
abbrev pub ChangesOnly : ℕ → Held → Held → Type 0
ChangesOnly slot old new = ChangesWhere (λ other. other == slot) old new

-- the image has the working records as its store
pub record IsCommitted (old new : Held) (was now : List ℕ) : Type 0 where
  pub store : store_of now ≡ stored old Working was
  pub stands : StandsFor new now

-- at each moment the store of the image is the committed one or the working one, and nothing is given
pub record Commits (held : Held) (old new : Chip) : Type 0 where
  pub still : new.still ≡ old.still
  pub moments : LeavesOf (λ was left. (store_of left ≡ stored held Committed was) ⊎ (store_of left ≡ stored held Working was)) old new

-- A transaction is begun, whose records are those that were committed.
pub record BeginsTransaction (old new : Held) : Type 0 where
  pub begun : new ≡ begun_from old
  pub stands : (image : List ℕ) → StandsFor old image → StandsFor new image
  pub starts : (image : List ℕ) → contents new Working image ≡ contents old Committed image
  -- What is committed stays.
  pub committed : (image : List ℕ) → contents new Committed image ≡ contents old Committed image
  pub no_entries : entries new ≡ 0

-- A transaction is ended, and what was committed stays.
pub record RollsBackTransaction (old new : Held) : Type 0 where
  pub ended : new.begun ≡ false
  -- The number of cells and the limit of rows are as they were.
  pub cells : new.chains.cells ≡ old.chains.cells
  pub rows : new.row_limit ≡ old.row_limit
  pub stands : (image : List ℕ) → StandsFor old image → StandsFor new image
  pub committed : (image : List ℕ) → contents new Committed image ≡ contents old Committed image

-- A transaction is committed: its records are the store's, all of them or none.
pub record CommitsTransaction {S T E : Type 0} (chip : S → Chip) (faults : S → ℕ) (old new : Held) (before after : S) (result : Result T E) : Type 0 where
  pub ended : OnOk result (new.begun ≡ false)
  -- The number of cells and the limit of rows are as they were.
  pub cells : OnOk result (new.chains.cells ≡ old.chains.cells)
  pub rows : OnOk result (new.row_limit ≡ old.row_limit)
  pub told : OnOk result (is_some (chip after).image ≡ is_some (chip before).image)
  pub done : OnOk result (Becomes (IsCommitted old new) (chip before).image (chip after).image)
  pub moments : Commits old (chip before) (chip after)
  -- Nothing is written behind the image.
  pub behind : Keeps (drop (image_size old.chains.cells)) (chip before) (chip after)
  -- An entry is written for each slot that has another chain now.
  pub octets_written : OnOk result (Becomes (RisesBy (4 + 6 * entries old)) (chip before).written (chip after).written)
  -- After a fault the store in memory is unchanged.
  pub unchanged : OnErr result (new ≡ old)
  pub cause : Counts (faults before) (faults after) result

-- A transaction may be committed: it was begun, in a store over this EEPROM.
pub record MayCommit (held : Held) (chip : Chip) : Type 0 where
  pub begun : IsTrue held.begun
  pub over : IsOver held chip
