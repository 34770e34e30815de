-- Chains that are freed slot by slot, where others are kept in their place.
use Rattle.std.proofs.Common.{◌≡◌, ◌≢◌, ◌⊎◌, inl, inr, ℕ, ◌<◌, ◌==◌, ◌&&◌, not, Bool, true, false, List, [], ◌∷◌, ◌++◌, length, get_or, slice_index, sym, refl, ap, ◌∙◌, subst, true≢false, eqb-true, eq-eqb}
use Rattle.std.proofs.lemmas.Bool.{cases_Bool, or_cases, or_left, or_right}
use Rattle.cell_store.specs.Cells.{Cells, IsUsedChain, freed, link_in}
use Rattle.cell_store.specs.Chains.{AreLinked, is_among}
use Rattle.cell_store.specs.Marks.{StaysMarked, is_marked}
use Rattle.cell_store.proofs.Marking.{unmarked-with}
use Rattle.record_store.specs.Slots.{AreUsedChains, AreReplaced}
use Rattle.record_store.specs.Sound.{cells_in}
use Rattle.record_store.specs.Touched.{AreSlots, SameOutside}
use Rattle.record_store.proofs.Sides.{all-among, among-all, in-chains, one-slot, chain-at}
use Rattle.record_store.proofs.Touching.{among-last}

-- the cell is in the chain of one of these slots that another chain is kept in
abbrev pub AreReplacedIn : List ℕ → List ℕ → List (List ℕ) → List ℕ → ℕ → Type 0
AreReplacedIn replaced kept chains slots cell = (slot : ℕ) × (is_among slot slots ≡ true) × (slice_index replaced slot ≢ slice_index kept slot) × (is_among cell (get_or chains slot []) ≡ true)

-- these slots were looked at
pub record Freeing (start now : Cells) (replaced kept slots : List ℕ) : Type 0 where
  pub freed : (chains : List (List ℕ)) → AreUsedChains start replaced chains → (cell : ℕ) → is_marked now.used cell ≡ true → AreReplacedIn replaced kept chains slots cell → ⊥
  pub others : (chains : List (List ℕ)) → AreUsedChains start replaced chains → (cell : ℕ) → is_marked start.used cell ≡ true → ¬ (AreReplacedIn replaced kept chains slots cell) → is_marked now.used cell ≡ true
  pub cells : now.cells ≡ start.cells
  pub links : now.links ≡ start.links
  pub fewer : StaysMarked now.used start.used
  pub count_is : length now.used ≡ length start.used

pub Freeing-start : (start : Cells) (replaced kept : List ℕ) → Freeing start start replaced kept []
Freeing-start start replaced kept = record {
  freed = λ chains are cell is from. true≢false (sym from.1);
  others = λ chains are cell is none. is;
  cells = refl;
  links = refl;
  fewer = λ cell is. is;
  count_is = refl;
}

one-less : (replaced kept : List ℕ) (chains : List (List ℕ)) (slots : List ℕ) (slot cell : ℕ) → AreReplacedIn replaced kept chains slots cell → AreReplacedIn replaced kept chains (slots ++ slot ∷ []) cell
one-less replaced kept chains slots slot cell from = (from.0, among-last from.0 slot slots ∙ or_left (is_among from.0 slots) (from.0 == slot) from.1, from.2, from.3)

-- it is among the earlier ones, or the last one
last-or-before : (slots : List ℕ) (x slot : ℕ) → is_among x (slots ++ slot ∷ []) ≡ true → (x ≡ slot) ⊎ (is_among x slots ≡ true)
last-or-before slots x slot here = elim (or_cases (is_among x slots) (x == slot) (sym (among-last x slot slots) ∙ here)) [
  | inl before ↦ inr before
  | inr last ↦ inl (eqb-true x slot last)
]

-- a slot in which the same chain is kept
pub Freeing-kept : (start now : Cells) (replaced kept slots : List ℕ) (slot : ℕ) → slice_index replaced slot ≡ slice_index kept slot → Freeing start now replaced kept slots → Freeing start now replaced kept (slots ++ slot ∷ [])
Freeing-kept start now replaced kept slots slot same f = record {
  freed = λ chains are cell is from. f.freed chains are cell is (before chains cell from);
  others = λ chains are cell is none. f.others chains are cell is (λ from. none (one-less replaced kept chains slots slot cell from));
  cells = f.cells;
  links = f.links;
  fewer = f.fewer;
  count_is = f.count_is;
}
  where
    before : (chains : List (List ℕ)) (cell : ℕ) → AreReplacedIn replaced kept chains (slots ++ slot ∷ []) cell → AreReplacedIn replaced kept chains slots cell
    before chains cell from = elim (last-or-before slots from.0 slot from.1) [
      | inl here ↦ absurd (from.2 (rw here same))
      | inr other ↦ (from.0, other, from.2, from.3)
    ]

-- the chain of a slot is still used, until it is freed
still-used : (start now : Cells) (replaced kept slots : List ℕ) (slot : ℕ) (chains : List (List ℕ)) → slot < length replaced → is_among slot slots ≡ false → Freeing start now replaced kept slots → AreUsedChains start replaced chains → IsUsedChain now (slice_index replaced slot) (get_or chains slot [])
still-used start now replaced kept slots slot chains inside new f are =
    let there = chain-at start.links replaced chains slot are.are inside in
    record {
      linked = subst (λ (links : List ℕ). AreLinked (link_in links) (length links) (slice_index replaced slot) (get_or chains slot [])) (sym f.links) there.0;
      used = all-among (λ cell. is_marked now.used cell ≡ true) (get_or chains slot []) (λ cell here.
          f.others chains are cell (among-all (λ cell. is_marked start.used cell ≡ true) (cells_in chains) are.used cell (in-chains cell chains slot here))
          (λ from. (let same : from.0 ≡ slot = one-slot chains cell from.0 slot are.distinct from.3 here in true≢false (sym from.1 ∙ (ap (λ (slot : ℕ). is_among slot slots) same ∙ new)))));
      short = there.1;
    }

-- that of a slot in which another is kept is freed
pub Freeing-freed : (start now new : Cells) (replaced kept slots : List ℕ) (slot : ℕ) → slot < length replaced → is_among slot slots ≡ false → slice_index replaced slot ≢ slice_index kept slot → ((chain : List ℕ) → IsUsedChain now (slice_index replaced slot) chain → new ≡ freed now chain)
    → new.cells ≡ now.cells → new.links ≡ now.links → StaysMarked new.used now.used → length new.used ≡ length now.used → Freeing start now replaced kept slots → Freeing start new replaced kept (slots ++ slot ∷ [])
Freeing-freed start now new replaced kept slots slot inside apart_is other frees cells links fewer size f = record {
  freed = λ chains are cell is from. elim (last-or-before slots from.0 slot from.1) [
    | inl here ↦ (let gone = left chains are cell is in true≢false (sym (rw here at from.3) ∙ gone.1))
    | inr before ↦ f.freed chains are cell (left chains are cell is).0 (from.0, before, from.2, from.3)
  ];
  others = λ chains are cell is none.
      let used = f.others chains are cell is (λ from. none (one-less replaced kept chains slots slot cell from)) in
      let apart : is_among cell (get_or chains slot []) ≡ false = absent (is_among cell (get_or chains slot [])) (λ here. none (slot, among-last slot slot slots ∙ or_right (is_among slot slots) (slot == slot) (eq-eqb slot slot refl), other, here)) in
      marks chains are cell ∙ rw (used, apart) refl;
  cells = cells ∙ f.cells;
  links = links ∙ f.links;
  fewer = λ cell is. f.fewer cell (fewer cell is);
  count_is = size ∙ f.count_is;
}
  where
    absent : (b : Bool) → ¬ (b ≡ true) → b ≡ false
    absent true wrong = absurd (wrong refl)
    absent false wrong = refl

    and-parts : (a b : Bool) → (a && not b) ≡ true → (a ≡ true) × (b ≡ false)
    and-parts true true h = absurd (true≢false (sym h))
    and-parts true false h = (refl, refl)
    and-parts false b h = absurd (true≢false (sym h))

    marks : (chains : List (List ℕ)) → AreUsedChains start replaced chains → (cell : ℕ) → is_marked new.used cell ≡ (is_marked now.used cell && not (is_among cell (get_or chains slot [])))
    marks chains are cell =
        let chain : List ℕ = get_or chains slot [] in
        ap (λ (store : Cells). is_marked store.used cell) (frees chain (still-used start now replaced kept slots slot chains inside apart_is f are)) ∙ unmarked-with now.used chain cell

    left : (chains : List (List ℕ)) → AreUsedChains start replaced chains → (cell : ℕ) → is_marked new.used cell ≡ true → (is_marked now.used cell ≡ true) × (is_among cell (get_or chains slot []) ≡ false)
    left chains are cell is = and-parts (is_marked now.used cell) (is_among cell (get_or chains slot [])) (sym (marks chains are cell) ∙ is)

-- with these slots all are looked at, where the chains are the same in all others
pub freed-all : (start now : Cells) (replaced kept slots : List ℕ) → SameOutside slots replaced kept → Freeing start now replaced kept slots
    → (chains : List (List ℕ)) → AreUsedChains start replaced chains → (cell : ℕ) → is_marked now.used cell ≡ true → AreReplaced replaced kept chains (length replaced) cell → ⊥
freed-all start now replaced kept slots others f chains are cell is from = elim (cases_Bool (is_among from.0 slots)) [
  | inl here ↦ f.freed chains are cell is (from.0, here, from.2, from.3)
  | inr none ↦ from.2 (others from.0 none)
]

pub others-all : (start now : Cells) (replaced kept slots : List ℕ) → AreSlots (length replaced) slots → Freeing start now replaced kept slots
    → (chains : List (List ℕ)) → AreUsedChains start replaced chains → (cell : ℕ) → is_marked start.used cell ≡ true → ¬ (AreReplaced replaced kept chains (length replaced) cell) → is_marked now.used cell ≡ true
others-all start now replaced kept slots here f chains are cell is none = f.others chains are cell is (λ from. none (from.0, here.inside from.0 from.1, from.2, from.3))
