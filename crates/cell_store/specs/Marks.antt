-- Marks of cells: those that chains have.
use Rattle.std.specs.Prelude.{◌≡◌, ℕ, ◌+◌, ◌<◌, ◌≤◌, Bool, true, false, not, List, length, slice_index_or, count_by}

abbrev pub is_marked : List Bool → ℕ → Bool
is_marked marks cell = slice_index_or marks cell false

-- what was marked still is
abbrev pub StaysMarked : List Bool → List Bool → Type 0
StaysMarked old new = (cell : ℕ) → is_marked old cell ≡ true → is_marked new cell ≡ true

-- how many cells are marked, and how many aren't
abbrev pub marked : List Bool → ℕ
marked marks = count_by (λ mark. mark) marks

abbrev pub unmarked : List Bool → ℕ
unmarked marks = count_by not marks

-- so many neighbouring cells from this one on, of which none is marked
pub record IsFreeRun (marks : List Bool) (cell count : ℕ) : Type 0 where
  pub inside : cell + count ≤ length marks
  pub free : (k : ℕ) → cell ≤ k → k < cell + count → is_marked marks k ≡ false

-- no run of free cells is longer than this one, where it is shorter than was asked
abbrev pub IsLongest : List Bool → ℕ → ℕ → Type 0
IsLongest marks most found = found < most → (cell count : ℕ) → IsFreeRun marks cell count → count ≤ found

-- nor is one longer that begins at a cell or behind it
abbrev pub IsLongestFrom : List Bool → ℕ → ℕ → ℕ → Type 0
IsLongestFrom marks from most found = found < most → (cell count : ℕ) → from ≤ cell → IsFreeRun marks cell count → count ≤ found

-- this is the number of cells that aren't marked, and there are no more cells than the largest store has
pub record IsCounted (marks : List Bool) (free : ℕ) : Type 0 where
  pub few : length marks ≤ 4096
  pub free_is : free ≡ unmarked marks
