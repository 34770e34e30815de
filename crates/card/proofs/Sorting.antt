-- A list whose numbers rise is a list in rising order of its numbers, whatever the order was before; and a test of neighbours tells whether they rise.
use Rattle.std.proofs.Common.{◌≡◌, ℕ, zero, suc, ◌+◌, ◌<◌, ◌≤◌, Bool, true, false, ltb, List, [], ◌∷◌, length, get_or, refl, sym, ap, ◌∙◌, ◌⊎◌, inl, inr, subst, arith}
use Rattle.std.specs.Prelude.{IsTrue}
use Rattle.std.specs.List.{AllByRecursion, IsAllAdjacentAnswer, count_by}
use Rattle.std.specs.List.Sorted.{IsPermutation, IsNonDecreasingBy}
use Rattle.std.proofs.lemmas.Bool.{cases_Bool, ltb-true, lt-ltb, eq-eqb, false≢true}
use Rattle.std.proofs.lemmas.List.Elements.{All-from_recursion, recursion_from_All}
use Rattle.std.proofs.lemmas.List.Sorted.{IsPermutation-refl, IsPermutation-sym, IsPermutation-cons, IsPermutation-trans, IsPermutation-middle, All-permutation, sum_by-IsPermutation}
use Rattle.eeprom.specs.Slots.{AreApart, Rises, has, in_order, put_in_order}
use Rattle.scql_model.proofs.ChangedLists.{each-weaker}
use Rattle.eeprom.proofs.InOrder.{AreApart-rising, Rises-in_order, counts, count_by-cons}

-- an element of a list
abbrev In : {X : Type 0} → X → List X → Type 0
In z [] = ⊥
In z (y ∷ ys) = (z ≡ y) ⊎ In z ys

all-both : {X : Type 0} (P Q R : X → Type 0) (xs : List X) → ((x : X) → P x → Q x → R x) → AllByRecursion P xs → AllByRecursion Q xs → AllByRecursion R xs
all-both P Q R [] f all other = tt
all-both P Q R (x ∷ xs) f all other = (f x all.0 other.0, all-both P Q R xs f all.1 other.1)

in-all : {X : Type 0} (P : X → Type 0) (z : X) (xs : List X) → AllByRecursion P xs → In z xs → P z
in-all P z [] all there = absurd there
in-all P z (x ∷ xs) all (inl same) = subst P (sym same) all.0
in-all P z (x ∷ xs) all (inr there) = in-all P z xs all.1 there

in-each : {X : Type 0} (xs : List X) → AllByRecursion (λ z. In z xs) xs
in-each [] = tt
in-each (x ∷ xs) = (inl refl, each-weaker (λ z. In z xs) (λ z. In z (x ∷ xs)) xs (λ z there. inr there) (in-each xs))

-- an element of a list whose key is above its first one's is one of the rest
in-rest : {X : Type 0} (key : X → ℕ) (y z : X) (ys : List X) → In z (y ∷ ys) → key y < key z → In z ys
in-rest key y z ys (inl same) above = absurd (let e = ap key same in omega arith)
in-rest key y z ys (inr there) above = there

same_first : {X : Type 0} (key : X → ℕ) (x y : X) (xs ys : List X) → Rises key (x ∷ xs) → Rises key (y ∷ ys) → In x (y ∷ ys) → In y (x ∷ xs) → x ≡ y
same_first key x y xs ys rises rises' (inl same) other = same
same_first key x y xs ys rises rises' (inr there) (inl same) = sym same
same_first key x y xs ys rises rises' (inr there) (inr there') =
    absurd (let a = in-all (λ z. key y < key z) x ys rises'.0 there in let b = in-all (λ z. key x < key z) y xs rises.0 there' in omega arith)

-- two lists that rise and have the same elements are one
rising-unique : {X : Type 0} (key : X → ℕ) (xs ys : List X) → Rises key xs → Rises key ys → AllByRecursion (λ z. In z ys) xs → AllByRecursion (λ z. In z xs) ys → xs ≡ ys
rising-unique key [] [] rises rises' all all' = refl
rising-unique key [] (y ∷ ys) rises rises' all all' = absurd all'.0
rising-unique key (x ∷ xs) [] rises rises' all all' = absurd all.0
rising-unique key (x ∷ xs) (y ∷ ys) rises rises' all all' =
    let first : x ≡ y = same_first key x y xs ys rises rises' all.0 all'.0 in
    let above : AllByRecursion (λ z. key y < key z) xs = subst (λ w. AllByRecursion (λ z. key w < key z) xs) first rises.0 in
    let above' : AllByRecursion (λ z. key x < key z) ys = subst (λ w. AllByRecursion (λ z. key w < key z) ys) (sym first) rises'.0 in
    let rest : xs ≡ ys = rising-unique key xs ys rises.1 rises'.1 (all-both (λ z. In z (y ∷ ys)) (λ z. key y < key z) (λ z. In z ys) xs (λ z. in-rest key y z ys) all.1 above)
    (all-both (λ z. In z (x ∷ xs)) (λ z. key x < key z) (λ z. In z xs) ys (λ z. in-rest key x z xs) all'.1 above') in
    rw (first, rest) refl

IsPermutation-put_in_order : {X : Type 0} (key : X → ℕ) (x : X) (xs : List X) → IsPermutation (x ∷ xs) (put_in_order key x xs)
IsPermutation-put_in_order key x [] = IsPermutation-refl (x ∷ [])
IsPermutation-put_in_order key x (y ∷ ys) =
    elim (cases_Bool (ltb (key x) (key y))) [
      | inl t ↦ rw t (IsPermutation-refl (x ∷ y ∷ ys))
      | inr f ↦ rw f (IsPermutation-trans (x ∷ y ∷ ys) (y ∷ x ∷ ys) (y ∷ put_in_order key x ys) (IsPermutation-sym (y ∷ x ∷ ys) (x ∷ y ∷ ys) (IsPermutation-middle (y ∷ []) x ys))
          (IsPermutation-cons y (x ∷ ys) (put_in_order key x ys) (IsPermutation-put_in_order key x ys)))
    ]

IsPermutation-in_order : {X : Type 0} (key : X → ℕ) (xs : List X) → IsPermutation xs (in_order key xs)
IsPermutation-in_order key [] = IsPermutation-refl []
IsPermutation-in_order key (x ∷ xs) =
    IsPermutation-trans (x ∷ xs) (x ∷ in_order key xs) (put_in_order key x (in_order key xs)) (IsPermutation-cons x xs (in_order key xs) (IsPermutation-in_order key xs)) (IsPermutation-put_in_order key x (in_order key xs))

in-permuted : {X : Type 0} (xs ys : List X) → IsPermutation xs ys → AllByRecursion (λ z. In z xs) ys
in-permuted xs ys permuted = recursion_from_All (λ z. In z xs) ys (All-permutation (λ z. In z xs) xs ys permuted (All-from_recursion (λ z. In z xs) xs (in-each xs)))

-- numbers are apart in any order
pub AreApart-permuted : {X : Type 0} (key : X → ℕ) (xs ys : List X) → IsPermutation xs ys → AreApart key xs → AreApart key ys
AreApart-permuted key xs ys permuted apart = λ k. let same : count_by (has key k) ys ≡ count_by (has key k) xs = sum_by-IsPermutation _ xs ys permuted in let few = apart k in omega arith

-- Where the numbers rise, the elements are in rising order of them.
pub in_order-permuted : {X : Type 0} (key : X → ℕ) (xs ys : List X) → IsPermutation xs ys → Rises key ys → ys ≡ in_order key xs
in_order-permuted key xs ys permuted rises =
    let apart = AreApart-permuted key ys xs (IsPermutation-sym xs ys permuted) (AreApart-rising key ys rises) in
    let sorted = IsPermutation-in_order key xs in
    rising-unique key ys (in_order key xs) rises (Rises-in_order key xs apart) (in-permuted (in_order key xs) ys (IsPermutation-trans (in_order key xs) xs ys (IsPermutation-sym xs (in_order key xs) sorted) permuted))
    (in-permuted ys (in_order key xs) (IsPermutation-trans ys xs (in_order key xs) (IsPermutation-sym xs ys permuted) sorted))

-- Neighbours.
front-rises : {X : Type 0} (key : X → ℕ) (x y : X) (ys : List X) → key x < key y → Rises key (y ∷ ys) → Rises key (x ∷ y ∷ ys)
front-rises key x y ys less rises = ((less, each-weaker (λ z. key y < key z) (λ z. key x < key z) ys (λ z h. omega arith) rises.0), rises)

rises-neighbours : {X : Type 0} (key : X → ℕ) (xs : List X) → ((k : ℕ) (d : X) → suc k < length xs → key (get_or xs k d) < key (get_or xs (suc k) d)) → Rises key xs
rises-neighbours key [] less = tt
rises-neighbours key (x ∷ []) less = (tt, tt)
rises-neighbours key (x ∷ y ∷ ys) less = front-rises key x y ys (less 0 x (omega arith)) (rises-neighbours key (y ∷ ys) (λ k d h. less (suc k) d (omega arith)))

neighbours-rise : {X : Type 0} (key : X → ℕ) (xs : List X) → Rises key xs → (k : ℕ) (d : X) → suc k < length xs → key (get_or xs k d) < key (get_or xs (suc k) d)
neighbours-rise key [] rises k d h = absurd (omega arith)
neighbours-rise key (x ∷ []) rises k d h = absurd (omega arith)
neighbours-rise key (x ∷ y ∷ ys) rises zero d h = rises.0.0
neighbours-rise key (x ∷ y ∷ ys) rises (suc k) d h = neighbours-rise key (y ∷ ys) rises.1 k d (omega arith)

next_to : (P : ℕ → Type 0) (k : ℕ) → P (k + 1) → P (suc k)
next_to P k at = subst P (omega arith) at

-- what a test of all neighbours says
pub rises-answered : {X : Type 0} (key : X → ℕ) (xs : List X) (r : Bool) → IsAllAdjacentAnswer (λ x y b. b ≡ ltb (key x) (key y)) xs r → (IsTrue r → Rises key xs) × (Rises key xs → IsTrue r)
rises-answered key xs true answer = (
  λ _. rises-neighbours key xs (λ k d h. ltb-true (key (get_or xs k d)) (key (get_or xs (suc k) d)) (sym (next_to (λ n. true ≡ ltb (key (get_or xs k d)) (key (get_or xs n d))) k (answer k d (omega arith))))),
  λ _. refl,
)
rises-answered key [] false answer = (λ no. absurd (false≢true no), λ _. absurd (omega (arith, answer.1)))
rises-answered key (x ∷ xs) false answer = (
  λ no. absurd (false≢true no),
  λ rises.
      let k : ℕ = answer.0 in
      let less = neighbours-rise key (x ∷ xs) rises k x (omega (arith, answer.1)) in
      absurd (false≢true (next_to (λ n. false ≡ ltb (key (get_or (x ∷ xs) k x)) (key (get_or (x ∷ xs) n x))) k (answer.2 x) ∙ lt-ltb (key (get_or (x ∷ xs) k x)) (key (get_or (x ∷ xs) (suc k) x)) less)),
)

apart-tail : {X : Type 0} (key : X → ℕ) (x : X) (xs : List X) → AreApart key (x ∷ xs) → AreApart key xs
apart-tail key x xs apart = λ k. let a = count_by-cons (has key k) x xs in let b = apart k in omega arith

rises-steps : {X : Type 0} (key : X → ℕ) (xs : List X) → ((k : ℕ) (d : X) → suc k < length xs → key (get_or xs k d) ≤ key (get_or xs (suc k) d)) → AreApart key xs → Rises key xs
rises-steps key [] up apart = tt
rises-steps key (x ∷ []) up apart = (tt, tt)
rises-steps key (x ∷ y ∷ ys) up apart =
    let first : key x ≤ key y = up 0 x (omega arith) in
    let ne : key x ≡ key y → ⊥ = λ same. (
    let a = counts (has key (key y)) x (y ∷ ys) (eq-eqb (key x) (key y) same) in
    let b = counts (has key (key y)) y ys (eq-eqb (key y) (key y) refl) in
    let c = apart (key y) in
    omega arith) in
    front-rises key x y ys (omega (arith, first, ne)) (rises-steps key (y ∷ ys) (λ k d h. up (suc k) d (omega arith)) (apart-tail key x (y ∷ ys) apart))

-- numbers that don't fall, and are apart, rise
pub rises-apart : {X : Type 0} (key : X → ℕ) (xs : List X) → IsNonDecreasingBy key xs → AreApart key xs → Rises key xs
rises-apart key xs up apart = rises-steps key xs (λ k d h. up k (suc k) d (omega arith) h) apart
