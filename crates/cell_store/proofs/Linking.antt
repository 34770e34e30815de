-- Chains along links: in an image and in memory, one from each cell, and paths that lead to them.
use Rattle.std.proofs.Common.{◌≡◌, ℕ, zero, suc, ◌+◌, ◌*◌, ◌-◌, ◌<◌, ◌≤◌, ◌==◌, true, false, List, [], ◌∷◌, ◌++◌, length, slice_index, nat_lt, Some, sym, refl, ap, ◌∙◌, arith, subst, eqb-true, ltb-true, inl, inr}
use Rattle.std.specs.List.{AllByRecursion}
use Rattle.std.proofs.lemmas.Bool.Decides.{nat_tests}
use Rattle.eeprom.specs.StoreOf.{chain_of, cell_place, number_at, longest_chain}
use Rattle.cell_store.specs.Cells.{Cells, IsInRange, IsUsedChain, link_in}
use Rattle.cell_store.specs.Chains.{AreLinked, link_of, steps}
use Rattle.eeprom.proofs.Chains.{if-some, chain-cases}

-- the cells of a chain are linked one to the next
pub chain-linked : (image : List ℕ) (n most cell : ℕ) (chain : List ℕ) → chain_of image n most cell ≡ Some chain → AreLinked (link_of image n) (2 * n) cell chain
chain-linked image n zero cell chain h =
    let none = if-some (cell == 65535) chain h in
    subst (AreLinked (link_of image n) (2 * n) cell) (sym none.1) (eqb-true cell 65535 none.0)
chain-linked image n (suc most) cell chain h =
    elim (chain-cases (cell == 65535) (nat_lt cell (2 * n)) cell (chain_of image n most (number_at image (cell_place n cell))) chain h) [
      | inl none ↦ subst (AreLinked (link_of image n) (2 * n) cell) (sym none.1) (eqb-true cell 65535 none.0)
      | inr some ↦ subst (AreLinked (link_of image n) (2 * n) cell) (sym some.3)
          (refl, ltb-true cell (2 * n) some.0, chain-linked image n most (number_at image (cell_place n cell)) some.1 some.2)
    ]

pub linked-chain : (image : List ℕ) (n most cell : ℕ) (chain : List ℕ) → n ≤ 2048 → AreLinked (link_of image n) (2 * n) cell chain → length chain ≤ most → chain_of image n most cell ≡ Some chain
linked-chain image n zero cell [] few linked short = rw linked refl
linked-chain image n (suc most) cell [] few linked short = rw linked refl
linked-chain image n zero cell (next ∷ rest) few linked short = absurd (omega arith)
linked-chain image n (suc most) cell (next ∷ rest) few linked short =
    let inside : cell < 2 * n = linked.1 in
    let other : (cell == 65535) ≡ false = grind (arith, nat_tests) in
    let below : nat_lt cell (2 * n) ≡ true = grind (arith, nat_tests) in
    let tail : chain_of image n most (number_at image (cell_place n cell)) ≡ Some rest = linked-chain image n most (number_at image (cell_place n cell)) rest few linked.2 (omega arith) in
    rw (other, below, tail) (ap (λ (cell : ℕ). Some (cell ∷ rest)) (sym linked.0))

-- where the links of the cells agree
abbrev pub Agree : (ℕ → ℕ) → (ℕ → ℕ) → List ℕ → Type 0
Agree link other cells = AllByRecursion (λ cell. other cell ≡ link cell) cells

pub linked-same : (link other : ℕ → ℕ) (size cell : ℕ) (chain : List ℕ) → Agree link other chain → AreLinked link size cell chain → AreLinked other size cell chain
linked-same link other size cell [] agree linked = linked
linked-same link other size cell (first ∷ rest) agree linked =
    let same : other cell ≡ link cell = subst (λ (x : ℕ). other x ≡ link x) linked.0 agree.0 in
    (linked.0, linked.1, subst (λ (next : ℕ). AreLinked other size next rest) (sym same) (linked-same link other size (link cell) rest agree.1 linked.2))

-- there is one chain from a cell
pub linked-one : (link : ℕ → ℕ) (size cell : ℕ) (a b : List ℕ) → size ≤ 65535 → AreLinked link size cell a → AreLinked link size cell b → a ≡ b
linked-one link size cell [] [] few first second = refl
linked-one link size cell [] (y ∷ ys) few first second = absurd (omega (arith, first, second.1))
linked-one link size cell (x ∷ xs) [] few first second = absurd (omega (arith, first.1, second))
linked-one link size cell (x ∷ xs) (y ∷ ys) few first second =
    rw (first.0, second.0) (ap (λ (rest : List ℕ). cell ∷ rest) (linked-one link size (link cell) xs ys few first.2 second.2))

pub linked-inside : (link : ℕ → ℕ) (size cell : ℕ) (chain : List ℕ) → AreLinked link size cell chain → AllByRecursion (λ cell. cell < size) chain
linked-inside link size cell [] linked = tt
linked-inside link size cell (first ∷ rest) linked = (rw (linked.0) (linked.1), linked-inside link size (link cell) rest linked.2)

-- how many cells it has
pub steps-linked : (links : List ℕ) (cell limit : ℕ) (chain : List ℕ) → length links ≤ 65535 → AreLinked (link_in links) (length links) cell chain → length chain ≤ limit → steps links limit cell ≡ length chain
steps-linked links cell zero [] few linked short = refl
steps-linked links cell (suc limit) [] few linked short =
    let above : nat_lt cell (length links) ≡ false = grind (arith, nat_tests) in
    rw above refl
steps-linked links cell zero (first ∷ rest) few linked short = absurd (omega arith)
steps-linked links cell (suc limit) (first ∷ rest) few linked short =
    let inside : cell < length links = linked.1 in
    let below : nat_lt cell (length links) ≡ true = grind (arith, nat_tests) in
    rw below (ap suc (steps-linked links (slice_index links cell) limit rest few linked.2 (omega arith)))

-- and so of a used chain
pub steps-used : (store : Cells) (first : ℕ) (chain : List ℕ) → IsInRange store → IsUsedChain store first chain → steps store.links longest_chain first ≡ length chain
steps-used store first chain range is = steps-linked store.links first longest_chain chain (omega (arith, range.links_count, range.many)) is.linked is.short

-- a walk ends where no cell comes
pub steps-end : (links : List ℕ) (most cell : ℕ) → length links ≤ cell → steps links most cell ≡ 0
steps-end links zero cell outside = refl
steps-end links (suc most) cell outside =
    let above : nat_lt cell (length links) ≡ false = grind (arith, nat_tests) in
    rw above refl

pub steps-more : (links : List ℕ) (most cell : ℕ) → cell < length links → steps links (suc most) cell ≡ suc (steps links most (slice_index links cell))
steps-more links most cell inside =
    let below : nat_lt cell (length links) ≡ true = grind (arith, nat_tests) in
    rw below refl

pub steps-next : (links : List ℕ) (k cell : ℕ) → k < longest_chain → cell < length links → steps links (longest_chain - k) cell ≡ suc (steps links (longest_chain - (k + 1)) (slice_index links cell))
steps-next links k cell few inside =
    let left : longest_chain - k ≡ suc (longest_chain - (k + 1)) = omega arith in
    ap (λ (most : ℕ). steps links most cell) left ∙ steps-more links (longest_chain - (k + 1)) cell inside

-- from the first cell the links lead through these to another
abbrev pub IsPath : (ℕ → ℕ) → ℕ → ℕ → List ℕ → ℕ → Type 0
IsPath link size first [] cell = first ≡ cell
IsPath link size first (x ∷ path) cell = (x ≡ first) × (first < size) × IsPath link size (link first) path cell

pub path-more : (link : ℕ → ℕ) (size first : ℕ) (path : List ℕ) (cell : ℕ) → IsPath link size first path cell → cell < size → IsPath link size first (path ++ cell ∷ []) (link cell)
path-more link size first [] cell is inside = (sym is, rw is inside, ap link is)
path-more link size first (x ∷ path) cell is inside = (is.0, is.1, path-more link size (link first) path cell is.2 inside)

pub path-same : (link other : ℕ → ℕ) (size first : ℕ) (path : List ℕ) (cell : ℕ) → Agree link other path → IsPath link size first path cell → IsPath other size first path cell
path-same link other size first [] cell agree is = is
path-same link other size first (x ∷ path) cell agree is =
    let same : other first ≡ link first = subst (λ (x : ℕ). other x ≡ link x) is.0 agree.0 in
    (is.0, is.1, subst (λ (next : ℕ). IsPath other size next path cell) (sym same) (path-same link other size (link first) path cell agree.1 is.2))

pub path-end : (link : ℕ → ℕ) (size first : ℕ) (path : List ℕ) (cell : ℕ) → cell ≡ 65535 → IsPath link size first path cell → AreLinked link size first path
path-end link size first [] cell none is = is ∙ none
path-end link size first (x ∷ path) cell none is = (is.0, is.1, path-end link size (link first) path cell none is.2)

pub path-inside : (link : ℕ → ℕ) (size first : ℕ) (path : List ℕ) (cell : ℕ) → IsPath link size first path cell → AllByRecursion (λ cell. cell < size) path
path-inside link size first [] cell is = tt
path-inside link size first (x ∷ path) cell is = (rw (is.0) (is.1), path-inside link size (link first) path cell is.2)

-- each chain goes on from the path's end
pub path-rest : (link : ℕ → ℕ) (size first : ℕ) (path : List ℕ) (cell : ℕ) (chain : List ℕ) → size ≤ 65535 → IsPath link size first path cell → AreLinked link size first chain → (rest : List ℕ) × (chain ≡ path ++ rest) × AreLinked link size cell rest
path-rest link size first [] cell chain few is linked = (chain, refl, subst (λ (cell : ℕ). AreLinked link size cell chain) is linked)
path-rest link size first (x ∷ path) cell [] few is linked = absurd (omega (arith, linked, is.1))
path-rest link size first (x ∷ path) cell (y ∷ chain) few is linked =
    let from = path-rest link size (link first) path cell chain few is.2 linked.2 in
    let same : y ≡ x = linked.0 ∙ sym is.0 in
    (from.0, ap (λ (rest : List ℕ). y ∷ rest) from.1 ∙ ap (λ (z : ℕ). z ∷ (path ++ from.0)) same, from.2)

-- a count of cells along the links
pub steps-counted : (links : List ℕ) (first count cell : ℕ) → count < longest_chain → cell < length links → count + steps links (longest_chain - count) cell ≡ steps links longest_chain first → (count + 1) + steps links (longest_chain - (count + 1)) (slice_index links cell) ≡ steps links longest_chain first
steps-counted links first count cell few inside so_far = omega (arith, so_far, steps-next links count cell few inside)

pub steps-ended : (links : List ℕ) (first count cell : ℕ) → length links ≤ cell → count + steps links (longest_chain - count) cell ≡ steps links longest_chain first → count ≡ steps links longest_chain first
steps-ended links first count cell outside so_far = omega (arith, so_far, steps-end links (longest_chain - count) cell outside)
