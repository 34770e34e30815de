-- Slots by the first cells of their chains.
use Rattle.std.specs.Prelude.{◌≡◌, ◌≢◌, ◌⊎◌, ℕ, ◌+◌, ◌*◌, ◌<◌, ◌==◌, if◌then◌else◌, true, List, [], ◌∷◌, get_or, slice_index, take, drop, sum_by}
use Rattle.std.specs.List.{AllByRecursion}
use Rattle.eeprom.specs.StoreOf.{is_distinct, longest_chain, no_cell}
use Rattle.cell_store.specs.Cells.{Cells}
use Rattle.cell_store.specs.Chains.{is_among, steps}
use Rattle.cell_store.specs.Marks.{is_marked}
use Rattle.record_store.specs.Sound.{AreChains, cells_in}

-- the cells of the chains that begin at these, without that of a slot
abbrev pub steps_without : List ℕ → List ℕ → ℕ → ℕ
steps_without links firsts slot = sum_by (steps links longest_chain) (take slot firsts) + sum_by (steps links longest_chain) (drop (slot + 1) firsts)

-- used chains that begin at these cells, of which no two have a cell in common
pub record AreUsedChains (store : Cells) (firsts : List ℕ) (chains : List (List ℕ)) : Type 0 where
  pub are : AreChains store.links firsts chains
  pub distinct : is_distinct (cells_in chains) ≡ true
  pub used : AllByRecursion (λ cell. is_marked store.used cell ≡ true) (cells_in chains)

-- in how many slots another chain begins
abbrev pub changed : List ℕ → List ℕ → ℕ
changed [] working = 0
changed (first ∷ committed) [] = 0
changed (first ∷ committed) (next ∷ working) = (if next == first then 0 else 1) + changed committed working

-- each of these is a cell of a store of so many slots, or none
abbrev pub AreFirsts : ℕ → List ℕ → Type 0
AreFirsts n firsts = AllByRecursion (λ first. (first < 2 * n) ⊎ (first ≡ no_cell)) firsts

-- the cell is in the chain of one of so many slots that another chain is kept in
abbrev pub AreReplaced : List ℕ → List ℕ → List (List ℕ) → ℕ → ℕ → Type 0
AreReplaced replaced kept chains count cell = (slot : ℕ) × (slot < count) × (slice_index replaced slot ≢ slice_index kept slot) × (is_among cell (get_or chains slot []) ≡ true)
