-- In order, numbers are different where each differs from the next.
use Rattle.std.proofs.Common.{◌≡◌, ℕ, suc, ◌-◌, ◌<◌, ◌≤◌, ◌==◌, true, false, cond, eqb, not, List, [], ◌∷◌, length, get_or, take, drop, refl, sym, ap, subst, ◌∙◌, inl, inr, arith}
use Rattle.std.specs.List.{list_any, count_by}
use Rattle.std.specs.List.Sorted.{IsPermutation, IsSorted, IsNonDecreasing}
use Rattle.std.specs.Ordering.{nat_cmp}
use Rattle.std.proofs.lemmas.Bool.{cases_Bool, eqb-true, eqb-false, ne_eqb, eq-eqb, not-true, false≢true, and_parts}
use Rattle.std.proofs.lemmas.List.Sorted.{IsNonDecreasingBy-from_sort, sum_by-IsPermutation}
use Rattle.std.proofs.Math.Seq.{take-length}
use Rattle.eeprom.specs.Slots.{has, AreApart}
use Rattle.eeprom.proofs.InOrder.{counts, counts_not, count_by-cons}
use Rattle.card.specs.Apart.{are_different_numbers, differ_from_next}

abbrev itself : ℕ → ℕ
itself n = n

least-tail : (x : ℕ) (xs : List ℕ) → IsNonDecreasing (x ∷ xs) → IsNonDecreasing xs
least-tail x xs up = λ i j d le lt. up (suc i) (suc j) d (omega arith) (omega arith)

all-from : (x : ℕ) (xs : List ℕ) → ((j : ℕ) → j < length xs → (d : ℕ) → x < get_or xs j d) → list_any (λ y. x == y) xs ≡ false
all-from x [] above = refl
all-from x (y ∷ ys) above =
    let h = above 0 (omega arith) y in
    rw (ne_eqb x y (λ e. omega arith)) (all-from x ys (λ j lt d. above (suc j) (omega arith) d))

pub neighbours : (x : ℕ) (xs : List ℕ) → IsNonDecreasing (x ∷ xs) → differ_from_next x xs ≡ are_different_numbers (x ∷ xs)
neighbours x [] up = refl
neighbours x (y ∷ ys) up =
    let rest = neighbours y ys (least-tail x (y ∷ ys) up) in
    elim (cases_Bool (eqb y x)) [
      | inl t ↦ rw (t, eq-eqb x y (sym (eqb-true y x t))) refl
      | inr f ↦ (let ne = eqb-false y x f in
          let less = up 0 1 x (omega arith) (omega arith) in
          let none : list_any (λ z. x == z) (y ∷ ys) ≡ false = all-from x (y ∷ ys) (λ j lt d. let h = up 1 (suc j) d (omega arith) (omega arith) in omega (arith, ne)) in
          rw (f, none) rest)
    ]

none-count : (x : ℕ) (xs : List ℕ) → count_by (has itself x) xs ≡ 0 → list_any (λ y. x == y) xs ≡ false
none-count x [] none = refl
none-count x (y ∷ ys) none =
    elim (cases_Bool (eqb y x)) [
      | inl t ↦ absurd (let a = counts (has itself x) y ys t in omega arith)
      | inr f ↦ (let a = counts_not (has itself x) y ys f in let ne = eqb-false y x f in rw (ne_eqb x y (λ e. ne (sym e))) (none-count x ys (omega arith)))
    ]

count-none : (x : ℕ) (xs : List ℕ) → list_any (λ y. x == y) xs ≡ false → count_by (has itself x) xs ≡ 0
count-none x [] none = refl
count-none x (y ∷ ys) none =
    elim (cases_Bool (eqb x y)) [
      | inl t ↦ absurd (false≢true (sym (rw t at none)))
      | inr f ↦ (let ne = eqb-false x y f in counts_not (has itself x) y ys (ne_eqb y x (λ e. ne (sym e))) ∙ count-none x ys (rw f at none))
    ]

-- different numbers are each there once
pub apart-different : (xs : List ℕ) → are_different_numbers xs ≡ true → AreApart itself xs
apart-different [] different = λ k. omega arith
apart-different (x ∷ xs) different =
    let parts = and_parts (not (list_any (λ y. x == y) xs)) (are_different_numbers xs) different in
    let rest = apart-different xs parts.1 in
    let none = count-none x xs (not-true (list_any (λ y. x == y) xs) parts.0) in
    λ k. elim (cases_Bool (eqb x k)) [
      | inl t ↦ (let a = counts (has itself k) x xs t in
          let b : count_by (has itself k) xs ≡ 0 = subst (λ k. count_by (has itself k) xs ≡ 0) (eqb-true x k t) none in
          omega arith)
      | inr f ↦ (let a = counts_not (has itself k) x xs f in let b = rest k in omega arith)
    ]

pub different-apart : (xs : List ℕ) → AreApart itself xs → are_different_numbers xs ≡ true
different-apart [] apart = refl
different-apart (x ∷ xs) apart =
    let a = counts (has itself x) x xs (eq-eqb x x refl) in
    let b = apart x in
    rw (none-count x xs (omega arith)) (different-apart xs (λ k. let c = count_by-cons (has itself k) x xs in let d = apart k in omega arith))

-- numbers in another order are different alike
pub different-permutation : (xs ys : List ℕ) → IsPermutation xs ys → are_different_numbers ys ≡ are_different_numbers xs
different-permutation xs ys same =
    let count = λ (k : ℕ). sum_by-IsPermutation (λ (y : ℕ). cond (has itself k y) 1 0) xs ys same in
    elim (cases_Bool (are_different_numbers xs)) [
      | inl t ↦ different-apart ys (λ k. let a = apart-different xs t k in let b = count k in omega arith) ∙ sym t
      | inr f ↦ elim (cases_Bool (are_different_numbers ys)) [
        | inl t ↦ absurd (false≢true (sym f ∙ different-apart xs (λ k. let a = apart-different ys t k in let b = count k in omega arith)))
        | inr g ↦ g ∙ sym f
      ]
    ]

-- So numbers are different where those in order differ each from the next.
pub different-in_order : (old new : List ℕ) (d : ℕ) → IsPermutation old new → IsSorted nat_cmp new → 1 ≤ length new
    → differ_from_next (get_or new 0 d) (take (length new - 1) (drop 1 new)) ≡ are_different_numbers old
different-in_order old [] d same sorted some = absurd (omega arith)
different-in_order old (first ∷ rest) d same sorted some =
    let all : suc (length rest) - 1 ≡ length rest = omega arith in
    ap (λ (n : ℕ). differ_from_next first (take n rest)) all ∙ ap (differ_from_next first) (take-length rest)
    ∙ neighbours first rest (IsNonDecreasingBy-from_sort itself (first ∷ rest) sorted) ∙ different-permutation old (first ∷ rest) same
