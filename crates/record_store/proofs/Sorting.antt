-- Numbers in another order: the same ones are among them, each as often.
use Rattle.std.proofs.Common.{◌≡◌, ℕ, ◌+◌, ◌≤◌, ◌==◌, ◌||◌, not, Bool, true, false, cond, List, [], ◌∷◌, length, sym, refl, ap, ◌∙◌, arith, true≢false, eqb-true, eq-eqb}
use Rattle.std.specs.Prelude.{IsPermutation}
use Rattle.std.specs.List.{sum_by}
use Rattle.std.proofs.lemmas.Bool.{and_parts, false_from_ne_true}
use Rattle.std.proofs.lemmas.List.Sums.{sum_by-cons}
use Rattle.std.proofs.lemmas.List.Sorted.{length_permutation, sum_by-IsPermutation}
use Rattle.eeprom.specs.StoreOf.{is_distinct}
use Rattle.cell_store.specs.Chains.{is_among}
use Rattle.cell_store.proofs.Among.{not-true}

-- how often a number is among others
abbrev times : ℕ → List ℕ → ℕ
times x xs = sum_by (λ y. cond (x == y) 1 0) xs

times-more : (x y : ℕ) (xs : List ℕ) → times x (y ∷ xs) ≡ cond (x == y) 1 0 + times x xs
times-more x y xs = sum_by-cons (λ y. cond (x == y) 1 0) y xs

-- it is among them where that is once or more
times-among : (x : ℕ) (xs : List ℕ) → is_among x xs ≡ true → 1 ≤ times x xs
times-among x [] here = absurd (true≢false (sym here))
times-among x (y ∷ xs) here = elim (x == y) as (λ t. (x == y) ≡ t → (t || is_among x xs) ≡ true → 1 ≤ times x (y ∷ xs)) [
  | true ↦ λ e _. omega (arith, times-more x y xs, ap {B = ℕ} (λ (t : Bool). cond t 1 0) e)
  | false ↦ λ e later. omega (arith, times-more x y xs, times-among x xs later)
] refl here

times-none : (x : ℕ) (xs : List ℕ) → is_among x xs ≡ false → times x xs ≡ 0
times-none x [] none = refl
times-none x (y ∷ xs) none = elim (x == y) as (λ t. (x == y) ≡ t → (t || is_among x xs) ≡ false → times x (y ∷ xs) ≡ 0) [
  | true ↦ λ e wrong. absurd (true≢false wrong)
  | false ↦ λ e later. omega (arith, times-more x y xs, ap {B = ℕ} (λ (t : Bool). cond t 1 0) e, times-none x xs later)
] refl none

-- none comes twice where each comes at most once
distinct-times : (x : ℕ) (xs : List ℕ) → is_distinct xs ≡ true → times x xs ≤ 1
distinct-times x [] distinct = omega arith
distinct-times x (y ∷ xs) distinct =
    let tests = and_parts (not (is_among y xs)) (is_distinct xs) distinct in
    let rest = distinct-times x xs tests.1 in
    elim (x == y) as (λ t. (x == y) ≡ t → times x (y ∷ xs) ≤ 1) [
      | true ↦ λ e.
          let none : times x xs ≡ 0 = times-none x xs (ap (λ (x : ℕ). is_among x xs) (eqb-true x y e) ∙ not-true (is_among y xs) tests.0) in
          omega (arith, times-more x y xs, none, ap {B = ℕ} (λ (t : Bool). cond t 1 0) e)
      | false ↦ λ e. omega (arith, times-more x y xs, rest, ap {B = ℕ} (λ (t : Bool). cond t 1 0) e)
    ] refl

times-distinct : (xs : List ℕ) → ((x : ℕ) → times x xs ≤ 1) → is_distinct xs ≡ true
times-distinct [] once = refl
times-distinct (y ∷ xs) once =
    let none : is_among y xs ≡ false = false_from_ne_true (is_among y xs) (λ here. absurd (omega (arith, once y, times-more y y xs, ap {B = ℕ} (λ (t : Bool). cond t 1 0) (eq-eqb y y refl), times-among y xs here))) in
    rw (none) (times-distinct xs (λ x. omega (arith, once x, times-more x y xs)))

times-sorted : (x : ℕ) (xs ys : List ℕ) → IsPermutation xs ys → times x ys ≡ times x xs
times-sorted x xs ys moved = sum_by-IsPermutation (λ y. cond (x == y) 1 0) xs ys moved

-- in another order
pub among-sorted : (x : ℕ) (xs ys : List ℕ) → IsPermutation xs ys → is_among x ys ≡ is_among x xs
among-sorted x xs ys moved = cases (is_among x xs) (is_among x ys) refl refl
  where
    cases : (a b : Bool) → is_among x xs ≡ a → is_among x ys ≡ b → b ≡ a
    cases true true one other = refl
    cases false false one other = refl
    cases true false one other = absurd (omega (arith, times-among x xs one, times-none x ys other, times-sorted x xs ys moved))
    cases false true one other = absurd (omega (arith, times-none x xs one, times-among x ys other, times-sorted x xs ys moved))

pub distinct-sorted : (xs ys : List ℕ) → IsPermutation xs ys → is_distinct xs ≡ true → is_distinct ys ≡ true
distinct-sorted xs ys moved distinct = times-distinct ys (λ x. omega (arith, times-sorted x xs ys moved, distinct-times x xs distinct))

pub none-sorted : (xs ys : List ℕ) → xs ≡ [] → IsPermutation xs ys → ys ≡ []
none-sorted xs [] none moved = refl
none-sorted xs (y ∷ ys) none moved = absurd (omega (arith, length_permutation xs (y ∷ ys) moved, ap (length {A = ℕ}) none))
