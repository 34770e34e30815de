-- What is kept of the rows of one side of a store.
use Rattle.std.specs.Prelude.{◌≡◌, ℕ, ◌<◌, ◌≤◌, ◌==◌, Bool, not, count_by, length, List, [], map, replicate, slice_index, slice_set}
use Rattle.std.specs.List.{AllByRecursion, filter, insert}
use Rattle.eeprom.specs.Slots.{Rises}
use Rattle.row_index.specs.Places.{place_key, place_slot, place_stamp}
use Rattle.row_index.specs.declared.place.RowPlace.{RowPlace}

-- of each slot the table of the row that it has, or had, and the slots of the rows in order
pub record SideRows : Type 0 where
  pub tables : List ℕ
  pub slots : List ℕ

-- where the row of a slot stands, by the stamp and the table of each slot
abbrev pub place_at : List ℕ → List ℕ → ℕ → RowPlace
place_at stamps tables slot = record { stamp = slice_index stamps slot; table = slice_index tables slot; slot = slot }

abbrev pub places_at : List ℕ → List ℕ → List ℕ → List RowPlace
places_at stamps tables slots = map (place_at stamps tables) slots

-- where the rows of a side stand, by the stamp of each slot
abbrev pub places_of : List ℕ → SideRows → List RowPlace
places_of stamps rows = places_at stamps rows.tables rows.slots

-- their keys rise, and each stamp is a number of four octets
pub record AreInOrder (places : List RowPlace) : Type 0 where
  pub rises : Rises place_key places
  pub fits : AllByRecursion (λ place. place_stamp place < 4294967296) places

-- the rows stand in these places
pub record AreRows (rows : SideRows) (places : List RowPlace) : Type 0 where
  pub slots : rows.slots ≡ map place_slot places
  pub tables : AllByRecursion (λ place. slice_index rows.tables place.slot ≡ place.table) places

-- none, in so many slots
abbrev pub no_rows : ℕ → SideRows
no_rows cells = record { tables = replicate cells 0; slots = [] }

-- the row of a slot is missing
abbrev pub without_slot : ℕ → SideRows → SideRows
without_slot slot rows = record { tables = rows.tables; slots = filter (λ other. not (other == slot)) rows.slots }

-- all rows of a table are missing
abbrev pub without_table : ℕ → SideRows → SideRows
without_table table rows = record { tables = rows.tables; slots = filter (λ slot. not (slice_index rows.tables slot == table)) rows.slots }

-- So many of the slots are there whose places pass a test, where their places rise.
pub record CountsPlaces (stamps tables slots : List ℕ) (passes : RowPlace → Bool) (result : ℕ) : Type 0 where
  pub bound : result ≤ length slots
  pub count : Rises place_key (places_at stamps tables slots) → result ≡ count_by passes (places_at stamps tables slots)
