-- An index of rows: where the rows of both sides of a store stand.
use Rattle.std.specs.Prelude.{◌≡◌, ℕ, ◌<◌, ◌≤◌, Bool, true, false, List, IfSome, Some, None, length, count_by, slice_index, slice_index_or, slice_set}
use Rattle.std.specs.List.{AllByRecursion, filter_map, insert}
use Rattle.eeprom.specs.Chip.{Chip}
use Rattle.eeprom.specs.Slots.{AreApart, has, in_order}
use Rattle.eeprom.specs.StoreOf.{Slots}
use Rattle.record_store.specs.Held.{Held, IsOver}
use Rattle.record_store.specs.Tags.{stamp_of}
use Rattle.record_store.specs.declared.side.Side.{Side}
use Rattle.record_store.specs.declared.side.Side.TheVariants.{Committed, Working}
use Rattle.scql_base.specs.declared.records.RowRecord.{RowRecord}
use Rattle.catalog_codec.specs.Catalog.{row_kind}
use Rattle.record_table.specs.Listed.{at_slot, slots_of}
use Rattle.row_index.specs.Places.{numbered, place_in, place_stamp, row_places}
use Rattle.row_index.specs.Ordered.{Ordered}
use Rattle.row_index.specs.SideRows.{AreRows, SideRows}
use Rattle.row_index.specs.declared.place.RowPlace.{RowPlace}
use Rattle.row_index.specs.declared.done.Done.{Done}
use Rattle.row_index.specs.declared.done.Done.TheVariants.{Nothing, Added, Removed, Much}

-- how many cells the store has, whether a transaction is begun, and the rows of both sides. Without a transaction those of the
-- working side are the committed ones.
pub record Index : Type 0 where
  pub cells : ℕ
  pub begun : Bool
  pub committed : SideRows
  pub working : SideRows

abbrev pub side_rows : Index → Side → SideRows
side_rows index Committed = index.committed
side_rows index Working = index.working

-- more rows than others, by that of a slot at a place in order; the tables of all other slots are the same
pub record IsOneMore (at slot : ℕ) (fewer more : SideRows) : Type 0 where
  pub within : at ≤ length fewer.slots
  pub slots : more.slots ≡ insert fewer.slots at slot
  pub tables : more.tables ≡ slice_set fewer.tables slot (slice_index more.tables slot)
  pub back : fewer.tables ≡ slice_set more.tables slot (slice_index fewer.tables slot)

-- what was done leads from some rows to others
abbrev pub LeadsTo : Done → SideRows → SideRows → Type 0
LeadsTo Nothing from to = to ≡ from
LeadsTo (Added at slot) from to = IsOneMore at slot from to
LeadsTo (Removed at slot) from to = IsOneMore at slot to from
LeadsTo Much from to = Unit {0}

-- What an index keeps of both sides: the working rows are those that what was done makes of the committed ones.
pub record IsIndex (done : Done) (begun : Bool) (committed working : Ordered) : Type 0 where
  pub same_cells : working.cells ≡ committed.cells
  pub leads : LeadsTo done committed.rows working.rows
  pub idle : begun ≡ false → done ≡ Nothing

-- There are as many slots as cells, and their rows are these; no two have one stamp, and each stamp is a number of four octets.
pub record HasRows (cells : ℕ) (rows : SideRows) (slots : Slots) : Type 0 where
  pub all : length slots ≡ cells
  pub are : AreRows rows (row_places slots)
  pub apart : AreApart place_stamp (row_places slots)
  pub fits : AllByRecursion (λ place. place_stamp place < 4294967296) (row_places slots)

-- An index stands for a store: on each side it has the rows that the store's slots have, where told.
pub record Indexes (index : Index) (store : Held) (chip : Chip) : Type 0 where
  pub cells : index.cells ≡ store.chains.cells
  pub committed : IfSome (slots_of store Committed chip) (HasRows index.cells index.committed)
  pub working : IfSome (slots_of store Working chip) (HasRows index.cells index.working)

-- what is so of the slots of a side, where they are told and the index stands for the store
abbrev pub WhereIndexed : Index → Held → Side → (Slots → Type 0) → Type 0
WhereIndexed index store side P = (chip : Chip) → IsOver store chip → Indexes index store chip → IfSome (slots_of store side chip) P

-- of each slot that has a record its stamp is told
abbrev pub AreStamps : List ℕ → Slots → Type 0
AreStamps stamps slots = (slot : ℕ) (octets : List ℕ) → slice_index_or slots slot None ≡ Some octets → slice_index stamps slot ≡ stamp_of octets

-- The working rows may be others, in the transaction that is begun; all else is as it was.
pub record ChangesWorking (old new : Index) : Type 0 where
  pub cells : new.cells ≡ old.cells
  pub begun : new.begun ≡ true
  pub committed : new.committed ≡ old.committed

-- A slot without a row has one of a table, whose stamp is that of no other; the rows of all other slots are as they were.
pub record IsOneMoreRow (table slot : ℕ) (before after : Slots) : Type 0 where
  pub row : RowRecord
  pub of_table : row.table ≡ table
  pub empty : at_slot row_kind slot before ≡ None
  pub at : at_slot row_kind slot after ≡ Some row
  pub others : (other : ℕ) → ¬ (other ≡ slot) → at_slot row_kind other after ≡ at_slot row_kind other before
  pub all : length after ≡ length before
  pub new : count_by (has place_stamp row.stamp) (row_places before) ≡ 0

-- There are as many slots as cells, and their rows stand in these places, in rising order of their stamps, of which no two are the same.
pub record ArePlacesIn (cells : ℕ) (places : List RowPlace) (slots : Slots) : Type 0 where
  pub all : length slots ≡ cells
  pub are : places ≡ in_order place_stamp (filter_map place_in (numbered 0 slots))
  pub apart : AreApart place_stamp places
