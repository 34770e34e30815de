-- Chains of cells along links, and marks of their cells.
use Rattle.std.specs.Prelude.{◌≡◌, ℕ, zero, suc, ◌*◌, ◌<◌, ◌==◌, nat_lt, Bool, true, false, List, [], ◌∷◌, length, set, Some, if◌then◌else◌, slice_index}
use Rattle.std.specs.List.{AllByRecursion, list_any}
use Rattle.eeprom.specs.StoreOf.{no_cell, chain_of, is_record, is_distinct, number_at, cell_place}
use Rattle.cell_store.specs.Marks.{is_marked}

-- the cells from this one on, each below a number and linked to the next one, and the last to none
abbrev pub AreLinked : (ℕ → ℕ) → ℕ → ℕ → List ℕ → Type 0
AreLinked link size cell [] = cell ≡ no_cell
AreLinked link size cell (first ∷ rest) = (first ≡ cell) × (cell < size) × AreLinked link size (link cell) rest

-- the link of a cell in an image
abbrev pub link_of : List ℕ → ℕ → ℕ → ℕ
link_of image n cell = number_at image (cell_place n cell)

-- how many cells there are from this one on along the links, up to so many
abbrev pub steps : List ℕ → ℕ → ℕ → ℕ
steps links zero cell = 0
steps links (suc most) cell = if nat_lt cell (length links) then suc (steps links most (slice_index links cell)) else 0

-- whether a cell is among others
abbrev pub is_among : ℕ → List ℕ → Bool
is_among cell cells = list_any (λ other. cell == other) cells

-- none of these cells is among the others
abbrev pub AreNotAmong : List ℕ → List ℕ → Type 0
AreNotAmong cells others = AllByRecursion (λ cell. is_among cell others ≡ false) cells

-- none of these cells is marked, and none comes twice
pub record AreFree (marks : List Bool) (cells : List ℕ) : Type 0 where
  pub free : AllByRecursion (λ cell. is_marked marks cell ≡ false) cells
  pub distinct : is_distinct cells ≡ true

-- each of these cells is marked
abbrev pub AreMarked : List Bool → List ℕ → Type 0
AreMarked marks cells = AllByRecursion (λ cell. is_marked marks cell ≡ true) cells

-- these cells are marked too
abbrev pub with_marked : List Bool → List ℕ → List Bool
with_marked marks [] = marks
with_marked marks (cell ∷ cells) = with_marked (set marks cell true) cells

-- these cells are marked no more
abbrev pub with_unmarked : List Bool → List ℕ → List Bool
with_unmarked marks [] = marks
with_unmarked marks (cell ∷ cells) = with_unmarked (set marks cell false) cells

-- the image has a record in the chain from this cell on, which has at least one cell
pub record IsRecordChain (image : List ℕ) (n first : ℕ) (chain : List ℕ) : Type 0 where
  pub of : chain_of image n (2 * n) first ≡ Some chain
  pub is : is_record image n chain ≡ true
  pub some : 0 < length chain
