-- The slots that a transaction touched, among all slots of a store.
use Rattle.std.specs.Prelude.{◌≡◌, ℕ, ◌<◌, ◌≤◌, Bool, true, false, if◌then◌else◌, List, [], ◌∷◌, ◌++◌, length, slice_index, IsPermutation}
use Rattle.std.specs.List.Sorted.{IsNonDecreasing, IsNonDecreasingBy}
use Rattle.eeprom.specs.StoreOf.{most_cells, is_distinct}
use Rattle.eeprom.specs.declared.entry.Entry.{Entry}
use Rattle.cell_store.specs.Chains.{is_among}
use Rattle.cell_store.specs.Marks.{is_marked, marked}

-- the slots, and how many slots there are
pub record TouchedSlots : Type 0 where
  pub slots : List ℕ
  pub size : ℕ

-- none of so many
abbrev pub none_touched : ℕ → TouchedSlots
none_touched size = record { slots = []; size = size }

-- and one more, where it isn't among them
abbrev pub with_touched : List ℕ → ℕ → List ℕ
with_touched slots slot = if is_among slot slots then slots else slots ++ slot ∷ []

-- slots of so many, each once
pub record AreSlots (size : ℕ) (slots : List ℕ) : Type 0 where
  pub inside : (slot : ℕ) → is_among slot slots ≡ true → slot < size
  pub distinct : is_distinct slots ≡ true
  pub few : length slots ≤ size

-- they are marked, and no others, and there is room for all
pub record AreMarkedOnce (slots : List ℕ) (marks : List Bool) (room : ℕ) : Type 0 where
  pub marks_are : (slot : ℕ) → is_marked marks slot ≡ is_among slot slots
  pub distinct : is_distinct slots ≡ true
  pub count : length slots ≡ marked marks
  pub room_is : length marks ≤ room
  pub many : length marks ≤ most_cells

-- entries in the order of their slots
abbrev pub AreInOrder : List Entry → Type 0
AreInOrder entries = IsNonDecreasingBy (λ entry. entry.slot) entries

-- in all other slots two lists have the same numbers
abbrev pub SameOutside : List ℕ → List ℕ → List ℕ → Type 0
SameOutside slots left was = (slot : ℕ) → is_among slot slots ≡ false → slice_index left slot ≡ slice_index was slot

-- A slot is touched.
pub record Touches (slot : ℕ) (old new : TouchedSlots) : Type 0 where
  pub slots : new.slots ≡ with_touched old.slots slot
  pub size : new.size ≡ old.size

-- The slots that were touched are put in rising order.
pub record Sorts (old new : TouchedSlots) : Type 0 where
  pub slots : IsPermutation old.slots new.slots
  pub rising : IsNonDecreasing new.slots
  pub size : new.size ≡ old.size

-- No slot is touched.
pub record Clears (old new : TouchedSlots) : Type 0 where
  pub slots : new.slots ≡ []
  pub size : new.size ≡ old.size
