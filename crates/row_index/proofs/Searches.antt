-- Lists in rising order of a key, searched by halves.
use Rattle.std.proofs.Common.{◌≡◌, ℕ, zero, suc, ◌<◌, ◌≤◌, Bool, true, false, cond, ◌&&◌, ltb, leb, eqb, List, [], ◌∷◌, length, map, take, drop, Option, Some, None, get_or, inl, inr, refl, sym, ap, ◌∙◌, arith, subst}
use Rattle.std.specs.List.{find, insert, slice_get, count_by, list_all, AllByRecursion}
use Rattle.std.specs.Prelude.{Result, IsOk, is_ok}
use Rattle.std.specs.List.Sorted.{IsPartitionPoint, IsNonDecreasingBy}
use Rattle.std.proofs.lemmas.Bool.{cases_Bool, ltb-true, ltb-false, leb-true, leb-false, lt-ltb, le-ltb, lt-leb, le-leb, ne_eqb, and_parts, and_right}
use Rattle.std.proofs.lemmas.Option.{none-some, same_Some}
use Rattle.eeprom.specs.Slots.{Rises, has, is_after, put_in_order}
use Rattle.eeprom.proofs.InOrder.{counts, counts_not}

-- what holds of all holds at each index
pub all-at : {X : Type 0} (P : X → Type 0) (xs : List X) (i : ℕ) (d : X) → i < length xs → AllByRecursion P xs → P (get_or xs i d)
all-at P [] i d within all = absurd (omega arith)
all-at P (x ∷ xs) zero d within all = all.0
all-at P (x ∷ xs) (suc i) d within all = all-at P xs i d (omega arith) all.1

-- what holds of all holds of the one that a search reads
pub all-got : {X : Type 0} (P : X → Type 0) (xs : List X) (i : ℕ) (x : X) → AllByRecursion P xs → slice_get xs i ≡ Some x → P x
all-got P [] i x all got = absurd (none-some x got)
all-got P (y ∷ ys) zero x all got = subst P (same_Some y x got) all.0
all-got P (y ∷ ys) (suc i) x all got = all-got P ys i x all.1 got

-- keys that rise don't fall
pub IsNonDecreasingBy-rising : {X : Type 0} (key : X → ℕ) (xs : List X) → Rises key xs → IsNonDecreasingBy key xs
IsNonDecreasingBy-rising key [] rises i j d le within = absurd (omega arith)
IsNonDecreasingBy-rising key (x ∷ xs) rises zero zero d le within = omega arith
IsNonDecreasingBy-rising key (x ∷ xs) rises zero (suc j) d le within = let less = all-at (λ y. key x < key y) xs j d (omega arith) rises.0 in omega arith
IsNonDecreasingBy-rising key (x ∷ xs) rises (suc i) zero d le within = absurd (omega arith)
IsNonDecreasingBy-rising key (x ∷ xs) rises (suc i) (suc j) d le within = IsNonDecreasingBy-rising key xs rises.1 i j d (omega arith) (omega arith)

-- so many pass as stand before the point
pub count_by-point : {X : Type 0} (p : X → Bool) (xs : List X) (i : ℕ) → i ≤ length xs → IsPartitionPoint (λ y. p y ≡ true) (λ y. p y ≡ false) xs i → i ≡ count_by p xs
count_by-point p [] i within point = omega arith
count_by-point p (x ∷ xs) zero within point =
    let here : p x ≡ false = point.1 0 x (omega arith) (omega arith) in
    let rest = count_by-point p xs 0 (omega arith) ((λ k d low high. absurd (omega arith)), (λ k d low high. point.1 (suc k) d (omega arith) (omega arith))) in
    rest ∙ sym (counts_not p x xs here)
count_by-point p (x ∷ xs) (suc i) within point =
    let here : p x ≡ true = point.0 0 x (omega arith) (omega arith) in
    let rest = count_by-point p xs i (omega arith) ((λ k d low high. point.0 (suc k) d (omega arith) (omega arith)), (λ k d low high. point.1 (suc k) d (omega arith) (omega arith))) in
    let one = counts p x xs here in
    omega arith

-- where one key isn't below a number, none behind it is
pub none_below : {X : Type 0} (key : X → ℕ) (k m : ℕ) (xs : List X) → k ≤ m → AllByRecursion (λ y. m < key y) xs → count_by (λ y. ltb (key y) k) xs ≡ 0
none_below key k m [] le all = refl
none_below key k m (x ∷ xs) le all = counts_not (λ y. ltb (key y) k) x xs (le-ltb (key x) k (omega (arith, all.0))) ∙ none_below key k m xs le all.1

pub none_up_to : {X : Type 0} (key : X → ℕ) (k m : ℕ) (xs : List X) → k ≤ m → AllByRecursion (λ y. m < key y) xs → count_by (λ y. leb (key y) k) xs ≡ 0
none_up_to key k m [] le all = refl
none_up_to key k m (x ∷ xs) le all = counts_not (λ y. leb (key y) k) x xs (lt-leb (key x) k (omega (arith, all.0))) ∙ none_up_to key k m xs le all.1

-- so many keys are up to one as stand up to it
pub count_by-here : {X : Type 0} (key : X → ℕ) (k : ℕ) (xs : List X) (i : ℕ) (d : X) → Rises key xs → i < length xs → key (get_or xs i d) ≡ k → suc i ≡ count_by (λ y. leb (key y) k) xs
count_by-here key k [] i d rises within same = absurd (omega arith)
count_by-here key k (x ∷ xs) zero d rises within same =
    let none = none_up_to key k (key x) xs (omega (arith, same)) rises.0 in
    let one = counts (λ y. leb (key y) k) x xs (le-leb (key x) k (omega (arith, same))) in
    omega arith
count_by-here key k (x ∷ xs) (suc i) d rises within same =
    let less = all-at (λ y. key x < key y) xs i d (omega arith) rises.0 in
    let rest = count_by-here key k xs i d rises.1 (omega arith) same in
    let one = counts (λ y. leb (key y) k) x xs (le-leb (key x) k (omega (arith, same, less))) in
    omega arith

-- what holds of all holds of the first ones
all-take : {X Y : Type 0} (P : Y → Type 0) (f : X → Y) (i : ℕ) (xs : List X) → AllByRecursion P (map f xs) → AllByRecursion P (map f (take i xs))
all-take P f zero [] all = tt
all-take P f zero (x ∷ xs) all = tt
all-take P f (suc i) [] all = tt
all-take P f (suc i) (x ∷ xs) all = (all.0, all-take P f i xs all.1)

-- keys that rise do so among the first ones, and among the others
pub Rises-take : {X Y : Type 0} (key : Y → ℕ) (f : X → Y) (i : ℕ) (xs : List X) → Rises key (map f xs) → Rises key (map f (take i xs))
Rises-take key f zero [] rises = tt
Rises-take key f zero (x ∷ xs) rises = tt
Rises-take key f (suc i) [] rises = tt
Rises-take key f (suc i) (x ∷ xs) rises = (all-take (λ y. key (f x) < key y) f i xs rises.0, Rises-take key f i xs rises.1)

pub Rises-drop : {X Y : Type 0} (key : Y → ℕ) (f : X → Y) (i : ℕ) (xs : List X) → Rises key (map f xs) → Rises key (map f (drop i xs))
Rises-drop key f zero [] rises = rises
Rises-drop key f zero (x ∷ xs) rises = rises
Rises-drop key f (suc i) [] rises = rises
Rises-drop key f (suc i) (x ∷ xs) rises = Rises-drop key f i xs rises.1

-- so many keys are up to a number as stand before those above it
pub count_by-parted : {X : Type 0} (key : X → ℕ) (k i : ℕ) (xs : List X) → i ≤ length xs → list_all (λ y. ltb (key y) k) (take i xs) ≡ true → count_by (λ y. leb (key y) k) (drop i xs) ≡ 0 → i ≡ count_by (λ y. leb (key y) k) xs
count_by-parted key k zero [] within below above = sym above
count_by-parted key k zero (x ∷ xs) within below above = sym above
count_by-parted key k (suc i) [] within below above = absurd (omega arith)
count_by-parted key k (suc i) (x ∷ xs) within below above =
    let both = and_parts (ltb (key x) k) (list_all (λ y. ltb (key y) k) (take i xs)) below in
    let rest = count_by-parted key k i xs (omega arith) both.1 above in
    let less : key x < k = ltb-true (key x) k both.0 in
    let one = counts (λ y. leb (key y) k) x xs (le-leb (key x) k (omega arith)) in
    omega arith

-- no key is up to a number where the first isn't
pub count_by-above : {X : Type 0} (key : X → ℕ) (k : ℕ) (xs : List X) (x : X) → Rises key xs → slice_get xs 0 ≡ Some x → k < key x → count_by (λ y. leb (key y) k) xs ≡ 0
count_by-above key k [] x rises got above = absurd (none-some x got)
count_by-above key k (y ∷ ys) x rises got above =
    let same : y ≡ x = same_Some y x got in
    let less : k < key y = omega (arith, ap key same) in
    counts_not (λ z. leb (key z) k) y ys (lt-leb (key y) k less) ∙ none_up_to key k (key y) ys (omega arith) rises.0

-- all keys are below a number where the last is
pub last-below : {X : Type 0} (key : X → ℕ) (k : ℕ) (xs : List X) (i : ℕ) (x : X) → Rises key xs → slice_get xs i ≡ Some x → suc i ≡ length xs → ltb (key x) k ≡ list_all (λ y. ltb (key y) k) xs
last-below key k [] i x rises got end = absurd (none-some x got)
last-below key k (y ∷ []) zero x rises got end = subst (λ z. ltb (key z) k ≡ (ltb (key y) k && true)) (same_Some y x got) (either (ltb (key y) k))
  where
    either : (b : Bool) → b ≡ (b && true)
    either true = refl
    either false = refl
last-below key k (y ∷ []) (suc i) x rises got end = absurd (none-some x got)
last-below key k (y ∷ z ∷ zs) zero x rises got end = absurd (omega (arith, end))
last-below key k (y ∷ z ∷ zs) (suc i) x rises got end =
    let rest = last-below key k (z ∷ zs) i x rises.1 got (omega (arith, end)) in
    let less : key y < key x = all-got (λ w. key y < key w) (z ∷ zs) i x rises.0 got in
    elim (cases_Bool (ltb (key x) k)) [
      | inl t ↦ rw (t, lt-ltb (key y) k (omega (arith, less, ltb-true (key x) k t))) (sym t ∙ rest)
      | inr f ↦ rw f (sym (and_right (ltb (key y) k) (list_all (λ w. ltb (key w) k) (z ∷ zs)) (sym rest ∙ f)))
    ]

-- no key behind a greater one is found
not_found : {X : Type 0} (key : X → ℕ) (k m : ℕ) (xs : List X) → k ≤ m → AllByRecursion (λ y. m < key y) xs → find (has key k) xs ≡ None
not_found key k m [] le all = refl
not_found key k m (x ∷ xs) le all = rw (ne_eqb (key x) k (omega (arith, all.0))) (not_found key k m xs le all.1)

-- the element, if it has a key
abbrev pub with_key : {X : Type 0} → (X → ℕ) → ℕ → Option X → Option X
with_key key k None = None
with_key key k (Some x) = cond (eqb (key x) k) (Some x) None

-- what has a key stands behind those of lesser keys
pub find-has : {X : Type 0} (key : X → ℕ) (k : ℕ) (xs : List X) → Rises key xs → find (has key k) xs ≡ with_key key k (slice_get xs (count_by (λ y. ltb (key y) k) xs))
find-has key k [] rises = refl
find-has key k (x ∷ xs) rises =
    elim (cases_Bool (ltb (key x) k)) [
      | inl t ↦ (let less = ltb-true (key x) k t in
          let one : count_by (λ y. ltb (key y) k) (x ∷ xs) ≡ suc (count_by (λ y. ltb (key y) k) xs) = (let c = counts (λ y. ltb (key y) k) x xs t in omega arith) in
          rw (one, ne_eqb (key x) k (omega arith)) (find-has key k xs rises.1))
      | inr f ↦ (let most = ltb-false (key x) k f in
          let none = counts_not (λ y. ltb (key y) k) x xs f ∙ none_below key k (key x) xs most rises.0 in
          rw none (elim (cases_Bool (eqb (key x) k)) [
            | inl t ↦ rw t refl
            | inr g ↦ rw g (not_found key k (key x) xs most rises.0)
          ]))
    ]

-- what is after a key stands behind those of keys up to it
pub find-after : {X : Type 0} (key : X → ℕ) (k : ℕ) (xs : List X) → Rises key xs → find (is_after key k) xs ≡ slice_get xs (count_by (λ y. leb (key y) k) xs)
find-after key k [] rises = refl
find-after key k (x ∷ xs) rises =
    elim (cases_Bool (leb (key x) k)) [
      | inl t ↦ (let le = leb-true (key x) k t in
          let one : count_by (λ y. leb (key y) k) (x ∷ xs) ≡ suc (count_by (λ y. leb (key y) k) xs) = (let c = counts (λ y. leb (key y) k) x xs t in omega arith) in
          rw (one, le-ltb k (key x) le) (find-after key k xs rises.1))
      | inr f ↦ (let more = leb-false (key x) k f in
          let none = counts_not (λ y. leb (key y) k) x xs f ∙ none_up_to key k (key x) xs (omega arith) rises.0 in
          rw (none, lt-ltb k (key x) more) refl)
    ]

-- an element goes behind those of keys up to its own
pub put_in_order-insert : {X : Type 0} (key : X → ℕ) (x : X) (xs : List X) → Rises key xs → insert xs (count_by (λ y. leb (key y) (key x)) xs) x ≡ put_in_order key x xs
put_in_order-insert key x [] rises = refl
put_in_order-insert key x (y ∷ ys) rises =
    elim (cases_Bool (leb (key y) (key x))) [
      | inl t ↦ (let le = leb-true (key y) (key x) t in
          let one : count_by (λ z. leb (key z) (key x)) (y ∷ ys) ≡ suc (count_by (λ z. leb (key z) (key x)) ys) = (let c = counts (λ z. leb (key z) (key x)) y ys t in omega arith) in
          rw (one, le-ltb (key x) (key y) le) (ap (λ rest. y ∷ rest) (put_in_order-insert key x ys rises.1)))
      | inr f ↦ (let more = leb-false (key y) (key x) f in
          let none = counts_not (λ z. leb (key z) (key x)) y ys f ∙ none_up_to key (key x) (key y) ys (omega arith) rises.0 in
          rw (none, lt-ltb (key x) (key y) more) refl)
    ]

-- what a call leaves that succeeds
pub if_ok : {A E Y : Type 0} (r : Result A E) (x y : Y) → IsOk r → cond (is_ok r) x y ≡ x
if_ok r x y ok = rw ok refl

-- what has a key, by where it stands
pub find-at : {X : Type 0} (key : X → ℕ) (k : ℕ) (xs : List X) (i : ℕ) (o : Option X) → Rises key xs → i ≡ count_by (λ y. ltb (key y) k) xs → slice_get xs i ≡ o → find (has key k) xs ≡ with_key key k o
find-at key k xs i o rises count got = find-has key k xs rises ∙ ap (λ i. with_key key k (slice_get xs i)) (sym count) ∙ ap (with_key key k) got

-- so many keys are below one as stand before it
pub count_by-before : {X : Type 0} (key : X → ℕ) (k : ℕ) (xs : List X) (i : ℕ) (x : X) → Rises key xs → slice_get xs i ≡ Some x → key x ≡ k → i ≡ count_by (λ y. ltb (key y) k) xs
count_by-before key k [] i x rises got same = absurd (none-some x got)
count_by-before key k (y ∷ ys) zero x rises got same =
    let least : k ≤ key y = omega (arith, same, ap key (same_Some y x got)) in
    sym (counts_not (λ z. ltb (key z) k) y ys (le-ltb (key y) k least) ∙ none_below key k (key y) ys least rises.0)
count_by-before key k (y ∷ ys) (suc i) x rises got same =
    let less : key y < key x = all-got (λ w. key y < key w) ys i x rises.0 got in
    let rest = count_by-before key k ys i x rises.1 got same in
    let one = counts (λ z. ltb (key z) k) y ys (lt-ltb (key y) k (omega (arith, less, same))) in
    omega arith
