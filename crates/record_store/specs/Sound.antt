-- What holds of each store in memory, whatever an EEPROM tells: which chains its slots have, and that no other cells are used.
use Rattle.std.specs.Prelude.{◌≡◌, ◌⊎◌, ℕ, ◌*◌, ◌≤◌, ◌||◌, true, false, List, [], ◌∷◌, length, get_or, slice_index}
use Rattle.std.specs.List.{flat_map}
use Rattle.eeprom.specs.StoreOf.{is_distinct, longest_chain}
use Rattle.cell_store.specs.Cells.{Cells, IsInRange, link_in}
use Rattle.cell_store.specs.Chains.{AreLinked, is_among}
use Rattle.cell_store.specs.Marks.{is_marked}
use Rattle.record_store.specs.Held.{Held, firsts, IsRowLimit}
use Rattle.record_store.specs.declared.side.Side.TheVariants.{Working}

-- the chains along the links that begin at these cells, each of at most as many cells as a record has
abbrev pub AreChains : List ℕ → List ℕ → List (List ℕ) → Type 0
AreChains links [] [] = Unit {0}
AreChains links [] (chain ∷ chains) = ⊥
AreChains links (first ∷ firsts) [] = ⊥
AreChains links (first ∷ firsts) (chain ∷ chains) = AreLinked (link_in links) (length links) first chain × (length chain ≤ longest_chain) × AreChains links firsts chains

-- the cells of chains, one chain behind another
abbrev pub cells_in : List (List ℕ) → List ℕ
cells_in chains = flat_map (λ chain. chain) chains

-- the chains that begin at these cells: no cell is in two of them, and together they have at most as many as records may have
pub record HasChains (store : Cells) (firsts : List ℕ) (chains : List (List ℕ)) : Type 0 where
  pub are : AreChains store.links firsts chains
  pub distinct : is_distinct (cells_in chains) ≡ true
  pub few : length (cells_in chains) ≤ store.cells

-- in each slot the working chain is the one that was committed, or has no cell of a committed one
abbrev pub AreBeside : List ℕ → List ℕ → List (List ℕ) → List ℕ → Type 0
AreBeside committed working chains cells = (slot : ℕ) → (slice_index working slot ≡ slice_index committed slot) ⊎ ((cell : ℕ) → is_among cell (get_or chains slot []) ≡ true → is_among cell cells ≡ false)

-- the chains of both sides, whose cells are used, and no others
pub record KeepsSides (held : Held) : Type 0 where
  pub committed : List (List ℕ)
  pub working : List (List ℕ)
  pub committed_has : HasChains held.chains held.committed committed
  pub working_has : HasChains held.chains (firsts held Working) working
  pub beside : AreBeside held.committed (firsts held Working) working (cells_in committed)
  pub used : (cell : ℕ) → is_marked held.chains.used cell ≡ (is_among cell (cells_in committed) || is_among cell (cells_in working))

pub record IsSound (held : Held) : Type 0 where
  pub range : IsInRange held.chains
  pub rows : IsRowLimit held.row_limit
  pub committed_count : length held.committed ≡ held.chains.cells
  pub working_count : length held.working ≡ held.chains.cells
  pub octets_count : length held.first_octets ≡ 2 * held.chains.cells
  pub sides : KeepsSides held

-- the slots that begin at these cells have chains, whose cells are used, and no others
pub record Claimed (store : Cells) (firsts : List ℕ) : Type 0 where
  pub chains : List (List ℕ)
  pub has : HasChains store firsts chains
  pub used : (cell : ℕ) → is_marked store.used cell ≡ is_among cell (cells_in chains)
