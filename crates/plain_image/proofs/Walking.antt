-- A chain of cells, walked from cell to cell: the cells so far, and the chain from a cell on.
use Rattle.std.proofs.Common.{◌≡◌, ℕ, zero, suc, ◌*◌, ◌<◌, ◌≤◌, List, [], ◌∷◌, ◌++◌, Option, Some, None, option_map, refl, sym, ap, append_assoc}
use Rattle.std.proofs.lemmas.Bool.{eq-eqb, le-ltb, lt-ltb, ne_eqb}
use Rattle.std.proofs.lemmas.List.{append-nil}
use Rattle.eeprom.specs.StoreOf.{chain_of, cell_place, number_at, no_cell}

-- it ends
pub chain-ends : (image : List ℕ) (n most cell : ℕ) (cells : List ℕ) → cell ≡ no_cell → option_map (λ rest. cells ++ rest) (chain_of image n most cell) ≡ Some cells
chain-ends image n zero cell cells is = rw (eq-eqb cell no_cell is) (ap Some (append-nil cells))
chain-ends image n (suc most) cell cells is = rw (eq-eqb cell no_cell is) (ap Some (append-nil cells))

-- it goes on for too long
pub chain-exceeds : (image : List ℕ) (n cell : ℕ) (cells : List ℕ) → (cell ≡ no_cell → ⊥) → option_map (λ rest. cells ++ rest) (chain_of image n 0 cell) ≡ None
chain-exceeds image n cell cells is = rw (ne_eqb cell no_cell is) refl

-- it comes to what is no cell
pub chain-leaves : (image : List ℕ) (n most cell : ℕ) (cells : List ℕ) → (cell ≡ no_cell → ⊥) → 2 * n ≤ cell
    → option_map (λ rest. cells ++ rest) (chain_of image n (suc most) cell) ≡ None
chain-leaves image n most cell cells is out = rw (ne_eqb cell no_cell is, le-ltb cell (2 * n) out) refl

-- it goes on with a cell
pub chain-goes : (image : List ℕ) (n most cell : ℕ) (cells : List ℕ) → (cell ≡ no_cell → ⊥) → cell < 2 * n
    → option_map (λ rest. cells ++ rest) (chain_of image n (suc most) cell)
    ≡ option_map (λ rest. (cells ++ cell ∷ []) ++ rest) (chain_of image n most (number_at image (cell_place n cell)))
chain-goes image n most cell cells is inside = rw (ne_eqb cell no_cell is, lt-ltb cell (2 * n) inside) (behind (chain_of image n most (number_at image (cell_place n cell))))
  where
    behind : (rest : Option (List ℕ)) → option_map (λ rest. cells ++ rest) (option_map (λ rest. cell ∷ rest) rest) ≡ option_map (λ rest. (cells ++ cell ∷ []) ++ rest) rest
    behind None = refl
    behind (Some rest) = ap Some (sym (append_assoc cells (cell ∷ []) rest))
