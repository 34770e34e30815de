-- Marks of cells: one that is set, those of whole chains, and how many there are.
use Rattle.std.proofs.Common.{◌≡◌, ℕ, zero, suc, ◌+◌, ◌<◌, ◌≢◌, ◌==◌, ◌||◌, ◌&&◌, Bool, true, false, not, cond, List, [], ◌∷◌, ◌++◌, length, set, sym, refl, ap, ◌∙◌, arith, eqb-true, true≢false}
use Rattle.std.specs.List.{AllByRecursion}
use Rattle.std.proofs.lemmas.Bool.Decides.{nat_tests}
use Rattle.std.proofs.lemmas.List.{length-set, get_or-set_other}
use Rattle.std.proofs.lemmas.List.Sums.{sum_by-cons, sum_by-set}
use Rattle.cell_store.specs.Chains.{with_marked, with_unmarked}
use Rattle.cell_store.specs.Marks.{StaysMarked, is_marked, marked, unmarked}
use Rattle.cell_store.specs.Chains.{is_among}

pub marked-here : (marks : List Bool) (cell : ℕ) → cell < length marks → is_marked (set marks cell true) cell ≡ true
marked-here [] cell inside = absurd (omega arith)
marked-here (mark ∷ marks) zero inside = refl
marked-here (mark ∷ marks) (suc cell) inside = marked-here marks cell (omega arith)

pub marks-stay : (marks : List Bool) (at cell : ℕ) → is_marked marks cell ≡ true → is_marked (set marks at true) cell ≡ true
marks-stay [] at cell e = e
marks-stay (mark ∷ marks) zero zero e = refl
marks-stay (mark ∷ marks) zero (suc cell) e = e
marks-stay (mark ∷ marks) (suc at) zero e = e
marks-stay (mark ∷ marks) (suc at) (suc cell) e = marks-stay marks at cell e

-- one less isn't marked where a free one is
pub unmarked-one : (marks : List Bool) (cell : ℕ) → cell < length marks → is_marked marks cell ≡ false → unmarked marks ≡ unmarked (set marks cell true) + 1
unmarked-one marks cell inside free =
    let e = sum_by-set (λ (mark : Bool). cond (not mark) 1 0) marks cell true false inside in
    omega (arith, e, ap {B = ℕ} (λ mark. cond (not mark) 1 0) free)

-- only cells that there are are marked
pub marked-inside : (marks : List Bool) (cell : ℕ) → is_marked marks cell ≡ true → cell < length marks
marked-inside [] cell is = absurd (true≢false (sym is))
marked-inside (mark ∷ marks) zero is = omega arith
marked-inside (mark ∷ marks) (suc cell) is = omega (arith, marked-inside marks cell is)

pub marked-all : (marks : List Bool) → marked marks + unmarked marks ≡ length marks
marked-all [] = refl
marked-all (true ∷ marks) = omega (arith, marked-all marks, sum_by-cons (λ (mark : Bool). cond mark 1 0) true marks, sum_by-cons (λ (mark : Bool). cond (not mark) 1 0) true marks)
marked-all (false ∷ marks) = omega (arith, marked-all marks, sum_by-cons (λ (mark : Bool). cond mark 1 0) false marks, sum_by-cons (λ (mark : Bool). cond (not mark) 1 0) false marks)

-- of a cell that is marked, or marked no more
pub marked-set : (marks : List Bool) (at x : ℕ) → at < length marks → is_marked (set marks at true) x ≡ (is_marked marks x || (x == at))
marked-set marks at x inside = elim (x == at) as (λ t. (x == at) ≡ t → is_marked (set marks at true) x ≡ (is_marked marks x || t)) [
  | true ↦ λ e.
      let is : x ≡ at = eqb-true x at e in
      rw is (marked-here marks at inside) ∙ sym (or-true (is_marked marks x))
  | false ↦ λ e.
      let other : x ≢ at = grind (arith, nat_tests) in
      get_or-set_other marks at x true false other ∙ sym (or-false (is_marked marks x))
] refl
  where
    or-true : (b : Bool) → (b || true) ≡ true
    or-true true = refl
    or-true false = refl

    or-false : (b : Bool) → (b || false) ≡ b
    or-false true = refl
    or-false false = refl

unmarked-here : (marks : List Bool) (at : ℕ) → is_marked (set marks at false) at ≡ false
unmarked-here [] at = refl
unmarked-here (mark ∷ marks) zero = refl
unmarked-here (mark ∷ marks) (suc at) = unmarked-here marks at

pub unmarked-set : (marks : List Bool) (at x : ℕ) → is_marked (set marks at false) x ≡ (is_marked marks x && not (x == at))
unmarked-set marks at x = elim (x == at) as (λ t. (x == at) ≡ t → is_marked (set marks at false) x ≡ (is_marked marks x && not t)) [
  | true ↦ λ e.
      let is : x ≡ at = eqb-true x at e in
      rw is (unmarked-here marks at) ∙ sym (and-false (is_marked marks x))
  | false ↦ λ e.
      let other : x ≢ at = grind (arith, nat_tests) in
      get_or-set_other marks at x false false other ∙ sym (and-true (is_marked marks x))
] refl
  where
    and-false : (b : Bool) → (b && false) ≡ false
    and-false true = refl
    and-false false = refl

    and-true : (b : Bool) → (b && true) ≡ b
    and-true true = refl
    and-true false = refl

-- of the cells of a chain
pub length-with_marked : (marks : List Bool) (chain : List ℕ) → length (with_marked marks chain) ≡ length marks
length-with_marked marks [] = refl
length-with_marked marks (cell ∷ chain) = length-with_marked (set marks cell true) chain ∙ length-set marks cell true

pub length-with_unmarked : (marks : List Bool) (chain : List ℕ) → length (with_unmarked marks chain) ≡ length marks
length-with_unmarked marks [] = refl
length-with_unmarked marks (cell ∷ chain) = length-with_unmarked (set marks cell false) chain ∙ length-set marks cell false

pub marked-with : (size : ℕ) (marks : List Bool) (chain : List ℕ) (x : ℕ) → length marks ≡ size → AllByRecursion (λ cell. cell < size) chain → is_marked (with_marked marks chain) x ≡ (is_marked marks x || is_among x chain)
marked-with size marks [] x count inside = or-false (is_marked marks x)
  where
    or-false : (b : Bool) → b ≡ (b || false)
    or-false true = refl
    or-false false = refl
marked-with size marks (cell ∷ chain) x count inside =
    marked-with size (set marks cell true) chain x (length-set marks cell true ∙ count) inside.1
    ∙ ap (λ (t : Bool). t || is_among x chain) (marked-set marks cell x (omega (arith, inside.0)))
    ∙ or-assoc (is_marked marks x) (x == cell) (is_among x chain)
  where
    or-assoc : (a b c : Bool) → ((a || b) || c) ≡ (a || (b || c))
    or-assoc true b c = refl
    or-assoc false b c = refl

pub unmarked-with : (marks : List Bool) (chain : List ℕ) (x : ℕ) → is_marked (with_unmarked marks chain) x ≡ (is_marked marks x && not (is_among x chain))
unmarked-with marks [] x = and-true (is_marked marks x)
  where
    and-true : (b : Bool) → b ≡ (b && true)
    and-true true = refl
    and-true false = refl
unmarked-with marks (cell ∷ chain) x =
    unmarked-with (set marks cell false) chain x
    ∙ ap (λ (t : Bool). t && not (is_among x chain)) (unmarked-set marks cell x)
    ∙ neither (is_marked marks x) (x == cell) (is_among x chain)
  where
    neither : (a b c : Bool) → ((a && not b) && not c) ≡ (a && not (b || c))
    neither true true c = refl
    neither true false c = refl
    neither false b c = refl

pub with_marked-append : (marks : List Bool) (xs ys : List ℕ) → with_marked marks (xs ++ ys) ≡ with_marked (with_marked marks xs) ys
with_marked-append marks [] ys = refl
with_marked-append marks (x ∷ xs) ys = with_marked-append (set marks x true) xs ys

set-swap : (marks : List Bool) (a b : ℕ) → set (set marks a true) b true ≡ set (set marks b true) a true
set-swap [] a b = refl
set-swap (mark ∷ marks) zero zero = refl
set-swap (mark ∷ marks) zero (suc b) = refl
set-swap (mark ∷ marks) (suc a) zero = refl
set-swap (mark ∷ marks) (suc a) (suc b) = ap (λ (rest : List Bool). mark ∷ rest) (set-swap marks a b)

pub with_marked-set : (marks : List Bool) (at : ℕ) (chain : List ℕ) → with_marked (set marks at true) chain ≡ set (with_marked marks chain) at true
with_marked-set marks at [] = refl
with_marked-set marks at (cell ∷ chain) = ap (λ (marks : List Bool). with_marked marks chain) (set-swap marks at cell) ∙ with_marked-set (set marks cell true) at chain

pub with_marked-stays : (marks : List Bool) (chain : List ℕ) → StaysMarked marks (with_marked marks chain)
with_marked-stays marks [] = λ cell is. is
with_marked-stays marks (cell ∷ chain) = λ x is. with_marked-stays (set marks cell true) chain x (marks-stay marks cell x is)

pub with_marked-all : (size : ℕ) (marks : List Bool) (chain : List ℕ) → length marks ≡ size → AllByRecursion (λ cell. cell < size) chain → AllByRecursion (λ cell. is_marked (with_marked marks chain) cell ≡ true) chain
with_marked-all size marks [] count inside = tt
with_marked-all size marks (cell ∷ chain) count inside = (
  with_marked-stays (set marks cell true) chain cell (marked-here marks cell (omega (arith, inside.0))),
  with_marked-all size (set marks cell true) chain (length-set marks cell true ∙ count) inside.1,
)
