-- What a store of cells keeps in memory, and which images link its cells so.
use Rattle.std.specs.Prelude.{◌≡◌, ℕ, ◌*◌, ◌≤◌, Bool, true, false, List, length, replicate, slice_index}
use Rattle.std.specs.List.{AllByRecursion}
use Rattle.eeprom.specs.StoreOf.{fewest_cells, most_cells, no_cell, number_at, cell_place, longest_chain}
use Rattle.cell_store.specs.Marks.{StaysMarked, is_marked}
use Rattle.cell_store.specs.Chains.{AreLinked, with_unmarked}

-- the number of cells that records may have, of which there are twice as many; which cells are used; and of each used cell the number of the next one
pub record Cells : Type 0 where
  pub cells : ℕ
  pub used : List Bool
  pub links : List ℕ

-- what holds of each store, whatever an EEPROM tells
pub record IsInRange (store : Cells) : Type 0 where
  pub few : fewest_cells ≤ store.cells
  pub many : store.cells ≤ most_cells
  pub used_count : length store.used ≡ 2 * store.cells
  pub links_count : length store.links ≡ 2 * store.cells

-- these marks and links
abbrev pub cells_from : ℕ → List Bool → List ℕ → Cells
cells_from n used links = record { cells = n; used = used; links = links }

-- there is a mark and a link for each cell
pub record CoverCells (n : ℕ) (used : List Bool) (links : List ℕ) : Type 0 where
  pub used_count : length used ≡ 2 * n
  pub links_count : length links ≡ 2 * n

-- no cell is used
abbrev pub all_free : ℕ → Cells
all_free n = cells_from n (replicate (2 * n) false) (replicate (2 * n) no_cell)

-- the link of a cell in memory
abbrev pub link_in : List ℕ → ℕ → ℕ
link_in links cell = slice_index links cell

-- these are the cells of a used chain, from its first one on
pub record IsUsedChain (store : Cells) (first : ℕ) (chain : List ℕ) : Type 0 where
  pub linked : AreLinked (link_in store.links) (length store.links) first chain
  pub used : AllByRecursion (λ cell. is_marked store.used cell ≡ true) chain
  pub short : length chain ≤ longest_chain

-- the image links each used cell as it is linked in memory
pub record AreLinkedIn (store : Cells) (image : List ℕ) : Type 0 where
  pub each : (cell : ℕ) → is_marked store.used cell ≡ true → slice_index store.links cell ≡ number_at image (cell_place store.cells cell)

-- cells that were used before are linked as they were
abbrev pub StayLinked : List Bool → List ℕ → List ℕ → Type 0
StayLinked used old new = (cell : ℕ) → is_marked used cell ≡ true → slice_index new cell ≡ slice_index old cell

-- the cells of a chain are free again
abbrev pub freed : Cells → List ℕ → Cells
freed store chain = cells_from store.cells (with_unmarked store.used chain) store.links

-- A call answers how many cells records may have, which are at least as few and at most as many as a store may have.
pub record CountsCells (n result : ℕ) : Type 0 where
  pub number : result ≡ n
  pub few : fewest_cells ≤ result
  pub many : result ≤ most_cells

-- A used chain is freed.
pub record FreesChain (old new : Cells) (first : ℕ) : Type 0 where
  pub freed : (chain : List ℕ) → IsUsedChain old first chain → new ≡ freed old chain
  -- The number of cells and the links stay, and no cell is used that wasn't.
  pub cells : new.cells ≡ old.cells
  pub links : new.links ≡ old.links
  pub fewer : StaysMarked new.used old.used
  pub count : length new.used ≡ length old.used

-- a store may have so many cells
pub record IsCellCount (n : ℕ) : Type 0 where
  pub few : fewest_cells ≤ n
  pub many : n ≤ most_cells
