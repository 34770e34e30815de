-- The cells of a used chain, freed one by one.
use Rattle.std.proofs.Common.{◌≡◌, ℕ, zero, suc, ◌+◌, ◌<◌, ◌≤◌, ◌≢◌, ◌==◌, ◌&&◌, not, Bool, true, false, List, [], ◌∷◌, length, set, get_or, replicate, slice_index, sym, refl, ap, ◌∙◌, arith, subst, true≢false}
use Rattle.eeprom.specs.StoreOf.{is_distinct, longest_chain}
use Rattle.std.specs.List.{AllByRecursion}
use Rattle.cell_store.specs.Cells.{Cells, cells_from, link_in, IsUsedChain, freed}
use Rattle.cell_store.specs.Chains.{AreLinked, AreMarked, with_unmarked}
use Rattle.cell_store.specs.Marks.{is_marked, StaysMarked}
use Rattle.std.proofs.lemmas.List.{get_or-set_other, length-replicate}
use Rattle.cell_store.proofs.Cells.{none-of}
use Rattle.cell_store.proofs.Claiming.{free-within}
use Rattle.cell_store.proofs.Linking.{linked-inside, linked-one}
use Rattle.cell_store.proofs.Marking.{unmarked-set}

-- after so many steps the cells that are left of a used chain are still to be freed
pub record Left (links : List ℕ) (size : ℕ) (used : List Bool) (cell step : ℕ) (start : List Bool) (chain : List ℕ) : Type 0 where
  pub rest : List ℕ
  pub linked : AreLinked (link_in links) size cell rest
  pub marked : AllByRecursion (λ cell. is_marked used cell ≡ true) rest
  pub done : with_unmarked used rest ≡ with_unmarked start chain
  pub steps : length rest + step ≡ length chain

pub record Freeing (links : List ℕ) (start used : List Bool) (first step cell : ℕ) : Type 0 where
  pub left : (chain : List ℕ) → AreLinked (link_in links) (length links) first chain → AreMarked start chain → length chain ≤ longest_chain → Left links (length links) used cell step start chain
  pub fewer : StaysMarked used start

pub Freeing-start : (links : List ℕ) (start : List Bool) (first : ℕ) → Freeing links start start first 0 first
Freeing-start links start first = record {
  left = λ chain linked marked short. record { rest = chain; linked = linked; marked = marked; done = refl; steps = omega arith };
  fewer = λ cell is. is;
}

-- the cells behind one aren't that one, since the links come to an end
AreLinked-length : (links : List ℕ) (size cell : ℕ) (a b : List ℕ) → size ≤ 65535 → AreLinked (link_in links) size cell a → AreLinked (link_in links) size cell b → length a ≡ length b
AreLinked-length links size cell a b few first second = ap (length {A = ℕ}) (linked-one (link_in links) size cell a b few first second)

apart-behind : (links : List ℕ) (size cell next : ℕ) (whole rest : List ℕ) → size ≤ 65535 → AreLinked (link_in links) size cell whole → AreLinked (link_in links) size next rest → length rest < length whole → AllByRecursion (λ x. x ≢ cell) rest
apart-behind links size cell next whole [] few first second short = tt
apart-behind links size cell next whole (x ∷ rest) few first second short = (
  λ e. let here : AreLinked (link_in links) size cell (x ∷ rest) = subst (λ (at : ℕ). AreLinked (link_in links) size at (x ∷ rest)) (sym second.0 ∙ e) second in
      omega (arith, short, AreLinked-length links size cell whole (x ∷ rest) few first here),
  apart-behind links size cell (slice_index links next) whole rest few first second.2 (omega arith),
)

-- so the cells of a chain come once each, and there are no more of them than cells
linked-distinct : (links : List ℕ) (size cell : ℕ) (chain : List ℕ) → size ≤ 65535 → AreLinked (link_in links) size cell chain → is_distinct chain ≡ true
linked-distinct links size cell [] few linked = refl
linked-distinct links size cell (x ∷ rest) few linked =
    let apart = apart-behind links size cell (slice_index links cell) (x ∷ rest) rest few linked linked.2 (omega arith) in
    rw (linked.0, none-of cell rest apart, linked-distinct links size (slice_index links cell) rest few linked.2) refl

none-marked : (size cell : ℕ) → is_marked (replicate size false) cell ≡ false
none-marked zero cell = refl
none-marked (suc size) zero = refl
none-marked (suc size) (suc cell) = none-marked size cell

pub linked-within : (links : List ℕ) (size cell : ℕ) (chain : List ℕ) → size ≤ 65535 → AreLinked (link_in links) size cell chain → length chain ≤ size
linked-within links size cell chain few linked =
    free-within (replicate size false) size chain (length-replicate size false) (linked-inside (link_in links) size cell chain linked) (record { free = each chain; distinct = linked-distinct links size cell chain few linked })
  where
    each : (cells : List ℕ) → AllByRecursion (λ cell. is_marked (replicate size false) cell ≡ false) cells
    each [] = tt
    each (x ∷ xs) = (none-marked size x, each xs)

still-marked : (used : List Bool) (cell : ℕ) (rest : List ℕ) → AllByRecursion (λ x. x ≢ cell) rest → AllByRecursion (λ x. is_marked used x ≡ true) rest → AllByRecursion (λ x. is_marked (set used cell false) x ≡ true) rest
still-marked used cell [] apart are = tt
still-marked used cell (x ∷ rest) apart are = (get_or-set_other used cell x false false apart.0 ∙ are.0, still-marked used cell rest apart.1 are.1)

left-more : (links : List ℕ) (size : ℕ) (used : List Bool) (cell step : ℕ) (start : List Bool) (chain : List ℕ) → size ≤ 65535 → cell < size → Left links size used cell step start chain → Left links size (set used cell false) (slice_index links cell) (step + 1) start chain
left-more links size used cell step start chain few inside l = next l.rest l.linked l.marked l.done l.steps
  where
    next : (rest : List ℕ) → AreLinked (link_in links) size cell rest → AllByRecursion (λ cell. is_marked used cell ≡ true) rest → with_unmarked used rest ≡ with_unmarked start chain → length rest + step ≡ length chain
        → Left links size (set used cell false) (slice_index links cell) (step + 1) start chain
    next [] linked marked done steps = absurd (omega arith)
    next (x ∷ rest) linked marked done steps = record {
      rest = rest;
      linked = linked.2;
      marked = still-marked used cell rest (apart-behind links size cell (slice_index links cell) (x ∷ rest) rest few linked linked.2 (omega arith)) marked.1;
      done = subst (λ (at : ℕ). with_unmarked (set used at false) rest ≡ with_unmarked start chain) linked.0 done;
      steps = omega arith;
    }

fewer-more : (used start : List Bool) (cell : ℕ) → StaysMarked used start → StaysMarked (set used cell false) start
fewer-more used start cell fewer = λ x is. fewer x (and-left (is_marked used x) (not (x == cell)) (sym (unmarked-set used cell x) ∙ is))
  where
    and-left : (a b : Bool) → (a && b) ≡ true → a ≡ true
    and-left true b h = refl
    and-left false b h = h

pub Freeing-more : (links : List ℕ) (start used : List Bool) (first step cell : ℕ) → length links ≤ 65535 → cell < length links → Freeing links start used first step cell → Freeing links start (set used cell false) first (step + 1) (slice_index links cell)
Freeing-more links start used first step cell few inside f = record {
  left = λ chain linked marked short. left-more links (length links) used cell step start chain few inside (f.left chain linked marked short);
  fewer = fewer-more used start cell f.fewer;
}

-- the walk ends where a cell isn't used or there is none, or after as many cells as a record has
ended : (links : List ℕ) (size : ℕ) (used : List Bool) (cell step : ℕ) (start : List Bool) (chain : List ℕ) → is_marked used cell ≡ false → Left links size used cell step start chain → used ≡ with_unmarked start chain
ended links size used cell step start chain free l = none l.rest l.linked l.marked l.done
  where
    none : (rest : List ℕ) → AreLinked (link_in links) size cell rest → AllByRecursion (λ cell. is_marked used cell ≡ true) rest → with_unmarked used rest ≡ with_unmarked start chain → used ≡ with_unmarked start chain
    none [] linked marked done = done
    none (x ∷ rest) linked marked done = absurd (true≢false (sym marked.0 ∙ subst (λ (at : ℕ). is_marked used at ≡ false) (sym linked.0) free))

pub Freeing-end : (links : List ℕ) (start used : List Bool) (first step cell : ℕ) → is_marked used cell ≡ false → Freeing links start used first step cell
    → (chain : List ℕ) → AreLinked (link_in links) (length links) first chain → AreMarked start chain → length chain ≤ longest_chain → used ≡ with_unmarked start chain
Freeing-end links start used first step cell free f chain linked marked short = ended links (length links) used cell step start chain free (f.left chain linked marked short)

pub Freeing-full : (links : List ℕ) (start used : List Bool) (first step cell : ℕ) → longest_chain ≤ step → Freeing links start used first step cell
    → (chain : List ℕ) → AreLinked (link_in links) (length links) first chain → AreMarked start chain → length chain ≤ longest_chain → used ≡ with_unmarked start chain
Freeing-full links start used first step cell long f chain linked marked short =
    let l = f.left chain linked marked short in
    none l.rest l.done (omega (arith, short, l.steps))
  where
    none : (rest : List ℕ) → with_unmarked used rest ≡ with_unmarked start chain → length rest ≡ 0 → used ≡ with_unmarked start chain
    none [] done e = done
    none (x ∷ rest) done e = absurd (omega arith)

-- a store of which the cells of a used chain are marked no more
pub Freeing-seen : (n : ℕ) (used later : List Bool) (links : List ℕ) (first : ℕ) (store : Cells) → cells_from n used links ≡ store
    → ((chain : List ℕ) → AreLinked (link_in links) (length links) first chain → AreMarked used chain → length chain ≤ longest_chain → later ≡ with_unmarked used chain)
    → (chain : List ℕ) → IsUsedChain store first chain → cells_from n later links ≡ freed store chain
Freeing-seen n used later links first store seen unmarked =
    subst (λ (store : Cells). (chain : List ℕ) → IsUsedChain store first chain → cells_from n later links ≡ freed store chain) seen
    (λ chain is. ap (λ (used : List Bool). cells_from n used links) (unmarked chain is.linked is.used is.short))

-- what is read of a store is what is seen of it
pub length-links : (view store : Cells) → view ≡ store → length view.links ≡ length store.links
length-links view store same = ap (λ (store : Cells). length store.links) same

pub link-read : (items links : List ℕ) (cell link : ℕ) → items ≡ links → cell < length items → link ≡ get_or items cell link → link ≡ slice_index links cell
link-read items links cell link same inside is = is ∙ (get_or-any items cell link 0 inside ∙ ap (λ (xs : List ℕ). slice_index xs cell) same)
  where
    get_or-any : (xs : List ℕ) (k a b : ℕ) → k < length xs → get_or xs k a ≡ get_or xs k b
    get_or-any [] k a b inside = absurd (omega arith)
    get_or-any (x ∷ xs) zero a b inside = refl
    get_or-any (x ∷ xs) (suc k) a b inside = get_or-any xs k a b (omega arith)
