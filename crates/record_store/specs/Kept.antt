-- What a store keeps in memory beside the chains of its records, whatever an EEPROM tells.
use Rattle.std.specs.Prelude.{◌≡◌, ℕ, ◌<◌, ◌≤◌, false, List, [], length, slice_index}
use Rattle.eeprom.specs.StoreOf.{no_cell}
use Rattle.record_store.specs.Held.{Held}
use Rattle.record_store.specs.CommonRuns.{ArePassed}
use Rattle.record_store.specs.Tags.{Tags, HasTags, SameTagsOutside}
use Rattle.record_store.specs.Touched.{TouchedSlots, none_touched, SameOutside}
use Rattle.record_store.specs.Weighed.{IsWeighed}

-- of the slots that begin at these cells all behind so many are empty
abbrev pub AreEmptyBehind : ℕ → List ℕ → Type 0
AreEmptyBehind count firsts = (slot : ℕ) → count ≤ slot → slot < length firsts → slice_index firsts slot ≡ no_cell

-- behind so many slots all are empty on both sides
pub record AreInUse (held : Held) (count : ℕ) : Type 0 where
  pub most : count ≤ held.chains.cells
  pub committed : AreEmptyBehind count held.committed
  pub working : AreEmptyBehind count held.working

-- memory for searches and for a transaction over so many slots, of which none is touched
pub record HasMemory (cells : ℕ) (touched : TouchedSlots) (room : ℕ) (ends : List ℕ) : Type 0 where
  pub none : touched ≡ none_touched cells
  pub room_is : cells ≤ room
  pub searched : length ends ≡ cells

-- so many slots have tags on each side, which differ in these slots alone
pub record AreTagsTouched (tags : Tags) (slots : List ℕ) (cells : ℕ) : Type 0 where
  pub committed_count : HasTags cells tags.committed
  pub working_count : HasTags cells tags.working
  pub others : SameTagsOutside slots tags.working tags.committed

-- the working chains and tags differ from the committed ones in touched slots alone, where no transaction is begun in none, and there is room
-- for an entry of each slot
pub record IsTouched (held : Held) (touched : TouchedSlots) (room : ℕ) : Type 0 where
  pub size : touched.size ≡ held.chains.cells
  pub others : SameOutside touched.slots held.working held.committed
  pub idle : held.begun ≡ false → touched.slots ≡ []
  pub tags : AreTagsTouched held.tags touched.slots held.chains.cells
  pub room_is : held.chains.cells ≤ room

-- how many cells the committed records and the working ones have, how many slots are in use, which ones a search passes over, and which ones
-- a transaction touched
pub record IsInMemory (held : Held) (committed_weight working_weight slots_in_use : ℕ) (touched : TouchedSlots) (room : ℕ) (ends : List ℕ) : Type 0 where
  pub weighed : IsWeighed held committed_weight working_weight
  pub in_use : AreInUse held slots_in_use
  pub passed : ArePassed held ends
  pub transaction : IsTouched held touched room
