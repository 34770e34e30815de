-- A store with the index of its rows, as one value: when the two stand together, and what an operation leaves of them.
use Rattle.std.specs.Prelude.{◌≡◌, true, ℕ, ◌+◌, ◌*◌, ◌≤◌, false, List, [], ◌∷◌, count_by, Some, None, Result, IfSome, IsTrue, IsErrOf, OnOk, is_some, drop, slice_index_or}
use Rattle.eeprom.specs.Chip.{Chip, Becomes, Keeps, RisesBy}
use Rattle.eeprom.specs.Fault.{Counts, CountsFaults}
use Rattle.eeprom.specs.StoreOf.{store_of, image_size}
use Rattle.record_store.specs.Held.{IsOver, contents}
use Rattle.record_store.specs.Transaction.{ChangesWhere, begun_from, entries}
use Rattle.record_store.specs.Transaction as store
use Rattle.record_store.specs.declared.side.Side.TheVariants.{Committed, Working}
use Rattle.scql_base.specs.declared.words.StatusWord.{StatusWord}
use Rattle.scql_model.specs.Database.{Database}
use Rattle.scql_base.specs.declared.records.RowRecord.{RowRecord}
use Rattle.scql_model.specs.Edits.{Edit, removing}
use Rattle.scql_model.specs.Records.{of_row}
use Rattle.catalog_codec.specs.Catalog.{row_kind}
use Rattle.record_table.specs.Listed.{at_slot, slots_of}
use Rattle.record_table.specs.Making.{Ends, GoesOn, IsHeld, IsValidWith, Makes, is_stop_fault}
use Rattle.record_table.specs.Swept.{all_without, has_passing}
use Rattle.record_table.specs.declared.stop.Stop.{Stop}
use Rattle.record_table.specs.declared.stop.Stop.TheVariants.{Refused, Fault}
use Rattle.row_index.specs.Index.{ChangesWorking, Indexes}
use Rattle.row_table.specs.Found.{is_in}
use Rattle.row_table.specs.declared.tables.Tables.{Tables}

-- The tables stand over an EEPROM: their store does, their index has the rows of both sides, and both are in a transaction or neither is.
pub record Stand (tables : Tables) (chip : Chip) : Type 0 where
  pub over : IsOver tables.store chip
  pub index : Indexes tables.index tables.store chip
  pub together : tables.index.begun ≡ tables.store.begun

-- The tables stand over an EEPROM, and a transaction is begun.
pub record InTransaction (tables : Tables) (chip : Chip) : Type 0 where
  pub stand : Stand tables chip
  pub begun : IsTrue tables.store.begun

-- How an operation ends on the working side of a transaction: `may` is what it asks of the database, and `edits` says what it does to it, or its first refusal.
pub record EndedBy {S T : Type 0} (chip : S → Chip) (faults : S → ℕ) (may : Database → Type 0) (edits : Database → Result (List Edit) StatusWord → Type 0) (before after : S) (old new : Tables) (result : Result T Stop) : Type 0 where
  -- The database has the edits; or the first refusal is answered, and nothing was done.
  pub ends : (db : Database) → IsHeld old.store Working (chip before) db → may db → (outcome : Result (List Edit) StatusWord) × edits db outcome × Ends db outcome result old.store new.store (chip before) (chip after)
  -- The store goes on, whatever its EEPROM tells,
  pub goes_on : ¬ IsErrOf result Fault → GoesOn old.store new.store (chip before) (chip after)
  -- with an index of its rows, which is in a transaction as it was, and has the committed rows that it had.
  pub index : (db : Database) → IsHeld old.store Working (chip before) db → may db → ¬ IsErrOf result Fault → Indexes new.index new.store (chip after)
  pub index_cells : new.index.cells ≡ old.index.cells
  pub index_committed : new.index.committed ≡ old.index.committed
  pub index_begun : new.index.begun ≡ old.index.begun
  -- A refusal leaves each slot, and what is committed stays in any case.
  pub refused : (word : StatusWord) → IsErrOf result (Refused word) → slots_of new.store Working (chip after) ≡ slots_of old.store Working (chip before)
  pub committed : ¬ IsErrOf result Fault → slots_of new.store Committed (chip after) ≡ slots_of old.store Committed (chip before)
  -- At no moment has the image another store, and nothing is written behind it.
  pub moments : Keeps store_of (chip before) (chip after)
  pub behind : Keeps (drop (image_size old.store.chains.cells)) (chip before) (chip after)
  -- A fault of the EEPROM was counted.
  pub cause : CountsFaults is_stop_fault (faults before) (faults after) result

-- so of an operation whose edits the database alone says
abbrev pub Ended : {S T : Type 0} → (S → Chip) → (S → ℕ) → (Database → Type 0) → (Database → Result (List Edit) StatusWord) → S → S → Tables → Tables → Result T Stop → Type 0
Ended {S} {T} chip faults may edits before after old new result = EndedBy chip faults may (λ db outcome. outcome ≡ edits db) before after old new result

-- A row is taken out of its slot, in memory alone.
pub record RemovesRow (slot : ℕ) (old new : Tables) : Type 0 where
  -- The database is without it, and what is committed stays.
  pub makes : (chip : Chip) (db : Database) (row : RowRecord) → Stand old chip → IsHeld old.store Working chip db → IfSome (slots_of old.store Working chip) (λ slots. Some row ≡ at_slot row_kind slot slots)
      → IsValidWith db (removing (of_row row) ∷ []) → Makes db (removing (of_row row) ∷ []) old.store new.store chip chip
  pub committed : (chip : Chip) → Stand old chip → slots_of new.store Committed chip ≡ slots_of old.store Committed chip
  pub goes_on : (chip : Chip) → Stand old chip → GoesOn old.store new.store chip chip
  -- The index has the rows that are left.
  pub index : (chip : Chip) → Stand old chip → Indexes new.index new.store chip
  pub changes : ChangesWorking old.index new.index

-- All rows of a table are taken out of their slots, in memory alone.
pub record RemovesRows (table : ℕ) (old new : Tables) : Type 0 where
  -- No slot has a row of the table, and what is committed stays.
  pub removed : (chip : Chip) → Stand old chip → IfSome (slots_of old.store Working chip) (λ slots. slots_of new.store Working chip ≡ Some (all_without row_kind (is_in table) slots))
  pub committed : (chip : Chip) → Stand old chip → slots_of new.store Committed chip ≡ slots_of old.store Committed chip
  pub goes_on : (chip : Chip) → Stand old chip → GoesOn old.store new.store chip chip
  -- Only slots of these rows changed, each of which is an entry at most of a commit.
  pub only : (chip : Chip) → Stand old chip → IfSome (slots_of old.store Working chip) (λ slots. ChangesWhere (λ slot. has_passing row_kind (is_in table) (slice_index_or slots slot None)) old.store new.store)
  pub entries : (chip : Chip) → Stand old chip → IfSome (slots_of old.store Working chip) (λ slots. entries new.store ≤ entries old.store + count_by (has_passing row_kind (is_in table)) slots)
  -- The index has the rows that are left.
  pub index : (chip : Chip) → Stand old chip → Indexes new.index new.store chip
  pub changes : ChangesWorking old.index new.index

-- A transaction begins: both sides have what is committed.
pub record Begins (old new : Tables) : Type 0 where
  pub store : new.store ≡ begun_from old.store
  pub stand : (chip : Chip) → Stand old chip → Stand new chip
  pub starts : (image : List ℕ) → contents new.store Working image ≡ contents old.store Committed image
  pub committed : (image : List ℕ) → contents new.store Committed image ≡ contents old.store Committed image
  pub index : new.index ≡ record { cells = old.index.cells; begun = true; committed = old.index.committed; working = old.index.committed }
  pub no_entries : entries new.store ≡ 0

-- A transaction is committed: what was the working side is committed.
pub record Commits {S T E : Type 0} (chip : S → Chip) (faults : S → ℕ) (before after : S) (old new : Tables) (result : Result T E) : Type 0 where
  pub ended : OnOk result (new.store.begun ≡ false)
  pub stand : OnOk result (Stand new (chip after))
  pub slots : OnOk result (slots_of new.store Committed (chip after) ≡ slots_of old.store Working (chip before))
  pub index : OnOk result (new.index ≡ record { cells = old.index.cells; begun = false; committed = old.index.working; working = old.index.working })
  pub cells : OnOk result (new.store.chains.cells ≡ old.store.chains.cells)
  pub rows : OnOk result (new.store.row_limit ≡ old.store.row_limit)
  pub told : OnOk result (is_some (chip after).image ≡ is_some (chip before).image)
  pub done : OnOk result (Becomes (store.IsCommitted old.store new.store) (chip before).image (chip after).image)
  -- At each moment the image has the committed store or the working one.
  pub moments : store.Commits old.store (chip before) (chip after)
  pub behind : Keeps (drop (image_size old.store.chains.cells)) (chip before) (chip after)
  pub octets_written : OnOk result (Becomes (RisesBy (4 + 6 * entries old.store)) (chip before).written (chip after).written)
  pub cause : Counts (faults before) (faults after) result

-- A transaction is undone: what was committed stays.
pub record RollsBack (old new : Tables) : Type 0 where
  pub ended : new.store.begun ≡ false
  pub stand : (chip : Chip) → Stand old chip → Stand new chip
  pub committed : (image : List ℕ) → contents new.store Committed image ≡ contents old.store Committed image
  pub index : new.index ≡ record { cells = old.index.cells; begun = false; committed = old.index.committed; working = old.index.committed }
  pub cells : new.store.chains.cells ≡ old.store.chains.cells
  pub rows : new.store.row_limit ≡ old.store.row_limit
