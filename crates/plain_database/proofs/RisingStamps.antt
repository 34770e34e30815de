-- Searches by halves among elements whose keys rise.
use Rattle.std.proofs.Common.{◌≡◌, ℕ, zero, suc, ◌<◌, ◌≤◌, Bool, true, false, ltb, leb, Less, Greater, List, [], ◌∷◌, length, drop, take, get_or, slice_get, Some, None, Result, Ok, Err, inl, inr, refl, sym, ap, ◌∙◌, arith}
use Rattle.std.specs.Prelude.{◌==◌, ◌&&◌, nat_lt, option_and_then, option_to_list, if◌then◌else◌}
use Rattle.std.specs.List.{filter, find, position, position_or_len, AllByRecursion}
use Rattle.std.specs.List.Sorted.{IsBinarySearchResult, IsNonDecreasingBy, IsPartitionPoint, IsSearchInRange}
use Rattle.std.specs.Ordering.{nat_cmp, ordering_index}
use Rattle.std.specs.Result.{result_ok}
use Rattle.std.proofs.lemmas.Bool.{cases_Bool, ltb-true, ltb-false, leb-true, leb-false, lt-ltb, le-ltb, eqb-true, eq-eqb, ne_eqb}
use Rattle.std.proofs.lemmas.Bool.Decides.{nat_tests}
use Rattle.std.proofs.lemmas.Cmp.{ranked}
use Rattle.std.proofs.lemmas.List.{get_or_default}
use Rattle.std.proofs.lemmas.List.Folds.{find_at}
use Rattle.std.proofs.lemmas.List.Sums.{position_or_len_is}
use Rattle.std.proofs.lemmas.Option.{slice_get_past, slice_get_read}
use Rattle.eeprom.specs.Slots.{Rises, has}

-- what holds of all holds at each place
all-at : {X : Type 0} (P : X → Type 0) (xs : List X) (i : ℕ) (d : X) → i < length xs → AllByRecursion P xs → P (get_or xs i d)
all-at P [] i d within all = absurd (omega arith)
all-at P (x ∷ xs) zero d within all = all.0
all-at P (x ∷ xs) (suc i) d within all = all-at P xs i d (omega arith) all.1

-- a later key is greater
key-later : {X : Type 0} (key : X → ℕ) (xs : List X) (i j : ℕ) (d : X) → Rises key xs → i < j → j < length xs → key (get_or xs i d) < key (get_or xs j d)
key-later key [] i j d rises less within = absurd (omega arith)
key-later key (x ∷ xs) i zero d rises less within = absurd (omega arith)
key-later key (x ∷ xs) zero (suc j) d rises less within = all-at (λ y. key x < key y) xs j d (omega arith) rises.0
key-later key (x ∷ xs) (suc i) (suc j) d rises less within = key-later key xs i j d rises.1 (omega arith) (omega arith)

-- so keys that rise don't fall,
pub keys-rise : {X : Type 0} (key : X → ℕ) (xs : List X) → Rises key xs → IsNonDecreasingBy key xs
keys-rise key xs rises i j d le within = elim (cases_Bool (ltb i j)) [
  | inl t ↦ (let less = key-later key xs i j d rises (ltb-true i j t) within in omega arith)
  | inr f ↦ (let same : i ≡ j = (let least = ltb-false i j f in omega arith) in rw same (omega arith))
]

-- and neither do their comparisons with a number.
comparisons-rise : {X : Type 0} (key : X → ℕ) (k : ℕ) (xs : List X) → Rises key xs → IsNonDecreasingBy (λ y. ordering_index (nat_cmp (key y) k)) xs
comparisons-rise key k xs rises i j d le within = higher (key (get_or xs i d)) (key (get_or xs j d)) (keys-rise key xs rises i j d le within)
  where
    higher : (a b : ℕ) → a ≤ b → ordering_index (nat_cmp a k) ≤ ordering_index (nat_cmp b k)
    higher a b le = grind (arith, nat_tests)

-- the place of the first that passes, and none where all fail
place-is : {X : Type 0} (p : X → Bool) (xs : List X) (i : ℕ) (d : X) → i < length xs → ((j : ℕ) → j < i → p (get_or xs j d) ≡ false) → p (get_or xs i d) ≡ true → Some i ≡ position p xs
place-is p xs i d within before here =
    let first = position_or_len_is p xs i d (omega arith) before (λ _. here) in
    rw (first, lt-ltb i (length xs) within) refl

no-place : {X : Type 0} (p : X → Bool) (xs : List X) → ((j : ℕ) (d : X) → j < length xs → p (get_or xs j d) ≡ false) → None ≡ position p xs
no-place p [] none = refl
no-place p (x ∷ xs) none =
    let last = position_or_len_is p (x ∷ xs) (length (x ∷ xs)) x (omega arith) (λ j less. none j x less) (λ less. absurd (omega arith)) in
    rw (last, le-ltb (length (x ∷ xs)) (length (x ∷ xs)) (omega arith)) refl

-- What a search by halves answers is the place of a key.
pub place-searched : {X : Type 0} (key : X → ℕ) (k : ℕ) (xs : List X) (r : Result ℕ ℕ) → Rises key xs → IsSearchInRange r (length xs) → IsBinarySearchResult (λ y. nat_cmp (key y) k) xs r
    → result_ok r ≡ position (has key k) xs
place-searched key k [] (Ok i) rises range searched = absurd (omega arith)
place-searched key k (x ∷ xs) (Ok i) rises range searched =
    let same : key (get_or (x ∷ xs) i x) ≡ k = ranked _ k _ (sym (searched x)) in
    place-is (has key k) (x ∷ xs) i x range
    (λ j less. ne_eqb (key (get_or (x ∷ xs) j x)) k (λ here. let later = key-later key (x ∷ xs) j i x rises less range in omega arith))
    (eq-eqb (key (get_or (x ∷ xs) i x)) k same)
place-searched {X} key k xs (Err i) rises range searched = no-place (has key k) xs (λ j d within. ne_eqb (key (get_or xs j d)) k (λ here. other j d within here))
  where
    parted : IsPartitionPoint (λ y. nat_cmp (key y) k ≡ Less) (λ y. nat_cmp (key y) k ≡ Greater) xs i
    parted = searched (comparisons-rise key k xs rises)

    other : (j : ℕ) (d : X) → j < length xs → key (get_or xs j d) ≡ k → ⊥
    other j d within here = elim (cases_Bool (ltb j i)) [
      | inl t ↦ (let below = ranked _ k _ (sym (parted.0 j d (omega arith) (ltb-true j i t))) in omega arith)
      | inr f ↦ (let above = ranked _ k _ (sym (parted.1 j d (ltb-false j i f) within)) in omega arith)
    ]

-- What is found stands at its place,
pub find-placed : {X : Type 0} (p : X → Bool) (xs : List X) → find p xs ≡ option_and_then (slice_get xs) (position p xs)
find-placed p xs = find_at p xs ∙ elim (cases_Bool (ltb (position_or_len p xs) (length xs))) [
  | inl t ↦ rw t refl
  | inr f ↦ rw f (slice_get_past xs (position_or_len p xs) (ltb-false (position_or_len p xs) (length xs) f))
]

pub find-place : {X : Type 0} (p : X → Bool) (xs : List X) (i : ℕ) (x : X) → Some i ≡ position p xs → i < length xs → x ≡ get_or xs i x → find p xs ≡ Some x
find-place p xs i x there within is = find-placed p xs ∙ ap (option_and_then (slice_get xs)) (sym there) ∙ slice_get_read xs (length xs) i x refl within is

pub find-no_place : {X : Type 0} (p : X → Bool) (xs : List X) → None ≡ position p xs → find p xs ≡ None
find-no_place p xs none = find-placed p xs ∙ ap (option_and_then (slice_get xs)) (sym none)

-- is the one of its key,
pub filter-has : {X : Type 0} (key : X → ℕ) (k : ℕ) (xs : List X) → Rises key xs → filter (has key k) xs ≡ option_to_list (find (has key k) xs)
filter-has key k [] rises = refl
filter-has {X} key k (x ∷ xs) rises = elim (cases_Bool (has key k x)) [
  | inl t ↦ rw t (ap (λ rest. x ∷ rest) (none xs (rw (eqb-true (key x) k t) at rises.0)))
  | inr f ↦ rw f (filter-has key k xs rises.1)
]
  where
    none : (ys : List X) → AllByRecursion (λ y. k < key y) ys → filter (has key k) ys ≡ []
    none [] above = refl
    none (y ∷ ys) above = (let other = ne_eqb (key y) k (λ (same : key y ≡ k). omega (arith, above.0)) in rw other (none ys above.1))

pub has-there : {X : Type 0} (key : X → ℕ) (k : ℕ) (xs : List X) (i : ℕ) → Rises key xs → Some i ≡ position (has key k) xs → i < length xs → take 1 (drop i xs) ≡ filter (has key k) xs
has-there key k [] i rises there within = absurd (omega arith)
has-there {X} key k (x ∷ xs) i rises there within =
    let y = get_or (x ∷ xs) i x in
    one (x ∷ xs) i x within ∙ sym (filter-has key k (x ∷ xs) rises ∙ ap option_to_list (find-place (has key k) (x ∷ xs) i y there within (get_or_default (x ∷ xs) i x y within)))
  where
    one : (ys : List X) (i : ℕ) (d : X) → i < length ys → take 1 (drop i ys) ≡ get_or ys i d ∷ []
    one [] i d within = absurd (omega arith)
    one (y ∷ ys) zero d within = refl
    one (y ∷ ys) (suc i) d within = one ys i d (omega arith)

-- passes a further test or not,
pub find-both : {X : Type 0} (key : X → ℕ) (k : ℕ) (q : X → Bool) (xs : List X) → Rises key xs
    → find (λ x. key x == k && q x) xs ≡ option_and_then (λ x. if q x then Some x else None) (find (has key k) xs)
find-both key k q [] rises = refl
find-both {X} key k q (x ∷ xs) rises = elim (cases_Bool (has key k x)) [
  | inl t ↦ elim (cases_Bool (q x)) [
    | inl u ↦ rw (t, u) refl
    | inr f ↦ rw (t, f) (none xs (rw (eqb-true (key x) k t) at rises.0))
  ]
  | inr f ↦ rw f (find-both key k q xs rises.1)
]
  where
    none : (ys : List X) → AllByRecursion (λ y. k < key y) ys → find (λ x. key x == k && q x) ys ≡ None
    none [] above = refl
    none (y ∷ ys) above = (let other = ne_eqb (key y) k (λ (same : key y ≡ k). omega (arith, above.0)) in rw other (none ys above.1))

-- and behind it stand those of greater keys.
pub drop-behind : {X : Type 0} (key : X → ℕ) (k : ℕ) (xs : List X) (i : ℕ) → i ≤ length xs
    → IsPartitionPoint (λ y. leb (key y) k ≡ true) (λ y. leb (key y) k ≡ false) xs i → drop i xs ≡ filter (λ y. nat_lt k (key y)) xs
drop-behind key k [] zero within point = refl
drop-behind key k [] (suc i) within point = absurd (omega arith)
drop-behind key k (x ∷ xs) zero within point =
    let here = lt-ltb k (key x) (leb-false (key x) k (point.1 0 x (omega arith) (omega arith))) in
    let rest = drop-behind key k xs zero (omega arith) ((λ j d low high. absurd (omega arith)), (λ j d low high. point.1 (suc j) d (omega arith) (omega arith))) in
    rw here (ap (λ rest. x ∷ rest) rest)
drop-behind key k (x ∷ xs) (suc i) within point =
    let here = le-ltb k (key x) (leb-true (key x) k (point.0 0 x (omega arith) (omega arith))) in
    rw here (drop-behind key k xs i (omega arith) ((λ j d low high. point.0 (suc j) d (omega arith) (omega arith)), (λ j d low high. point.1 (suc j) d (omega arith) (omega arith))))
