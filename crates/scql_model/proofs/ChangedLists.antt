-- What holds of a list holds of it with an element in the place of that of its key, and of those elements that pass a test.
use Rattle.std.proofs.Common.{◌≡◌, ℕ, ◌<◌, ◌≤◌, Bool, true, false, List, [], ◌∷◌, map, filter, Some, eqb, refl, sym, ap, subst, ◌∙◌, inl, inr, arith}
use Rattle.std.specs.Prelude.{◌==◌, ◌||◌, not, if◌then◌else◌}
use Rattle.std.specs.List.{list_all, list_any, find, sum_by, AllByRecursion}
use Rattle.std.specs.Option.{option_map_or}
use Rattle.std.proofs.lemmas.Bool.{cases_Bool, and_parts, and_from, eqb-true}
use Rattle.std.proofs.lemmas.Option.{none-some, same_Some}
use Rattle.std.proofs.lemmas.List.Filters.{sum_by-filter_both}
use Rattle.std.proofs.lemmas.List.Sums.{sum_by-cons}
use Rattle.eeprom.specs.Slots.{Rises, replaced, without}
use Rattle.eeprom.proofs.InOrder.{all-filter}

-- what stands in a place then has the key of what stood there
pub key-replaced : {X : Type 0} (key : X → ℕ) (x y : X) → key (if eqb (key y) (key x) then x else y) ≡ key y
key-replaced key x y = elim (cases_Bool (eqb (key y) (key x))) [ inl t ↦ rw t (sym (eqb-true (key y) (key x) t)) | inr e ↦ rw e refl ]

-- so what is said of keys alone stays
pub sum_of_keys-replaced : {X : Type 0} (c : ℕ → ℕ) (key : X → ℕ) (x : X) (xs : List X) → sum_by (λ y. c (key y)) (replaced key x xs) ≡ sum_by (λ y. c (key y)) xs
sum_of_keys-replaced c key x [] = refl
sum_of_keys-replaced c key x (y ∷ ys) =
    let a = sum_by-cons (λ y. c (key y)) (if eqb (key y) (key x) then x else y) (replaced key x ys) in
    let b = sum_by-cons (λ y. c (key y)) y ys in
    let d = ap c (key-replaced key x y) in
    let rest = sum_of_keys-replaced c key x ys in
    omega arith

pub all_keys-replaced : {X : Type 0} (p : ℕ → Bool) (key : X → ℕ) (x : X) (xs : List X) → list_all (λ y. p (key y)) xs ≡ true → list_all (λ y. p (key y)) (replaced key x xs) ≡ true
all_keys-replaced p key x [] all = refl
all_keys-replaced p key x (y ∷ ys) all =
    let parts = and_parts (p (key y)) (list_all (λ y. p (key y)) ys) all in
    and_from (p (key (if eqb (key y) (key x) then x else y))) (list_all (λ y. p (key y)) (replaced key x ys)) (ap p (key-replaced key x y) ∙ parts.0) (all_keys-replaced p key x ys parts.1)

pub any_keys-replaced : {X : Type 0} (p : ℕ → Bool) (key : X → ℕ) (x : X) (xs : List X) → list_any (λ y. p (key y)) (replaced key x xs) ≡ list_any (λ y. p (key y)) xs
any_keys-replaced p key x [] = refl
any_keys-replaced p key x (y ∷ ys) = rw (key-replaced key x y) (ap (λ (rest : Bool). p (key y) || rest) (any_keys-replaced p key x ys))

pub Rises-replaced : {X : Type 0} (key : X → ℕ) (x : X) (xs : List X) → Rises key xs → Rises key (replaced key x xs)
Rises-replaced key x [] rises = tt
Rises-replaced key x (y ∷ ys) rises =
    (subst (λ n. AllByRecursion (λ z. n < key z) (replaced key x ys)) (sym (key-replaced key x y)) (above key (key y) x ys rises.0), Rises-replaced key x ys rises.1)
  where
    above : {X : Type 0} (key : X → ℕ) (k : ℕ) (x : X) (xs : List X) → AllByRecursion (λ z. k < key z) xs → AllByRecursion (λ z. k < key z) (replaced key x xs)
    above key k x [] all = tt
    above key k x (y ∷ ys) all = (subst (λ n. k < n) (sym (key-replaced key x y)) all.0, above key k x ys all.1)

-- and a test that the new one passes
pub list_all-replaced : {X : Type 0} (p : X → Bool) (key : X → ℕ) (x : X) (xs : List X) → p x ≡ true → list_all p xs ≡ true → list_all p (replaced key x xs) ≡ true
list_all-replaced p key x [] one all = refl
list_all-replaced p key x (y ∷ ys) one all =
    let parts = and_parts (p y) (list_all p ys) all in
    let rest = list_all-replaced p key x ys one parts.1 in
    elim (cases_Bool (eqb (key y) (key x))) [ inl t ↦ rw (t, one) rest | inr e ↦ rw (e, parts.0) rest ]

-- what is made of the elements stays, where it is made of the new one as of that of its key
pub map-replaced : {X Y : Type 0} (h : X → Y) (key : X → ℕ) (x : X) (xs : List X) → AllByRecursion (λ y. key y ≡ key x → h y ≡ h x) xs → map h (replaced key x xs) ≡ map h xs
map-replaced h key x [] same = refl
map-replaced h key x (y ∷ ys) same =
    elim (cases_Bool (eqb (key y) (key x))) [
      | inl t ↦ rw t (cons (sym (same.0 (eqb-true (key y) (key x) t))) (map-replaced h key x ys same.1))
      | inr e ↦ rw e (cons refl (map-replaced h key x ys same.1))
    ]
  where
    cons : {Y : Type 0} {a b : Y} {xs ys : List Y} → a ≡ b → xs ≡ ys → a ∷ xs ≡ b ∷ ys
    cons p q = cc

-- and so do the elements that pass a test, where neither does
pub filter-replaced : {X : Type 0} (p : X → Bool) (key : X → ℕ) (x : X) (xs : List X) → p x ≡ false → AllByRecursion (λ y. key y ≡ key x → p y ≡ false) xs → filter p (replaced key x xs) ≡ filter p xs
filter-replaced p key x [] one none = refl
filter-replaced p key x (y ∷ ys) one none =
    let rest = filter-replaced p key x ys one none.1 in
    elim (cases_Bool (eqb (key y) (key x))) [
      | inl t ↦ rw (t, one, none.0 (eqb-true (key y) (key x) t)) rest
      | inr e ↦ rw e (elim (cases_Bool (p y)) [ inl t ↦ rw t (ap (λ (zs : List _). y ∷ zs) rest) | inr f ↦ rw f rest ])
    ]

-- and what a test says of the element of a key
pub found-replaced : {X : Type 0} (h : X → Bool) (key : X → ℕ) (x : X) (k : ℕ) (xs : List X) → AllByRecursion (λ y. key y ≡ key x → h y ≡ h x) xs
    → option_map_or h (find (λ y. eqb (key y) k) (replaced key x xs)) false ≡ option_map_or h (find (λ y. eqb (key y) k) xs) false
found-replaced h key x k [] same = refl
found-replaced h key x k (y ∷ ys) same =
    let rest = found-replaced h key x k ys same.1 in
    elim (cases_Bool (eqb (key y) (key x))) [
      | inl t ↦ (let here = eqb-true (key y) (key x) t in
          elim (cases_Bool (eqb (key x) k)) [
            | inl u ↦ rw (t, u, here, u) (sym (same.0 here))
            | inr f ↦ rw (t, f, here, f) rest
          ])
      | inr e ↦ rw e (elim (cases_Bool (eqb (key y) k)) [ inl u ↦ rw u refl | inr f ↦ rw f rest ])
    ]

pub each-weaker : {X : Type 0} (P Q : X → Type 0) (xs : List X) → ((x : X) → P x → Q x) → AllByRecursion P xs → AllByRecursion Q xs
each-weaker P Q [] more all = tt
each-weaker P Q (x ∷ xs) more all = (more x all.0, each-weaker P Q xs more all.1)

pub found-each : {X : Type 0} (P : X → Type 0) (q : X → Bool) (xs : List X) (x : X) → AllByRecursion P xs → find q xs ≡ Some x → P x
found-each P q [] x all found = absurd (none-some x found)
found-each P q (y ∷ ys) x all found =
    elim (cases_Bool (q y)) [ inl t ↦ subst P (same_Some y x (rw t at found)) all.0 | inr e ↦ found-each P q ys x all.1 (rw e at found) ]

-- what was found among elements of rising keys is the one of its key
pub found-only : {X : Type 0} (key : X → ℕ) (q : X → Bool) (xs : List X) (x : X) → Rises key xs → find q xs ≡ Some x → AllByRecursion (λ y. key y ≡ key x → y ≡ x) xs
found-only key q [] x rises found = tt
found-only {X} key q (y ∷ ys) x rises found =
    elim (cases_Bool (q y)) [
      | inl t ↦ (let is : y ≡ x = same_Some y x (rw t at found) in
          (λ e. is, each-weaker (λ z. key y < key z) (λ z. key z ≡ key x → z ≡ x) ys (λ z above e. let same : key y ≡ key x = ap key is in absurd (omega arith)) rises.0))
      | inr e ↦ (let above : key y < key x = found-each (λ z. key y < key z) q ys x rises.0 (rw e at found) in
          (λ same. absurd (omega arith), found-only key q ys x rises.1 (rw e at found)))
    ]

-- fewer elements
pub list_all-filter : {X : Type 0} (p q : X → Bool) (xs : List X) → list_all q xs ≡ true → list_all q (filter p xs) ≡ true
list_all-filter p q [] all = refl
list_all-filter p q (x ∷ xs) all =
    let parts = and_parts (q x) (list_all q xs) all in
    let rest = list_all-filter p q xs parts.1 in
    elim (cases_Bool (p x)) [ inl t ↦ rw (t, parts.0) rest | inr e ↦ rw e rest ]

-- a test that those who go don't pass finds the same among those who stay
find-filter : {X : Type 0} (q stays : X → Bool) (xs : List X) → ((x : X) → q x ≡ true → stays x ≡ true) → find q (filter stays xs) ≡ find q xs
find-filter q stays [] left = refl
find-filter q stays (x ∷ xs) left =
    elim (cases_Bool (q x)) [
      | inl t ↦ rw (left x t, t) refl
      | inr f ↦ elim (cases_Bool (stays x)) [ inl t ↦ rw (t, f) (find-filter q stays xs left) | inr e ↦ rw (e, f) (find-filter q stays xs left) ]
    ]

any-filter : {X : Type 0} (q stays : X → Bool) (xs : List X) → ((x : X) → q x ≡ true → stays x ≡ true) → list_any q (filter stays xs) ≡ list_any q xs
any-filter q stays [] left = refl
any-filter q stays (x ∷ xs) left =
    elim (cases_Bool (q x)) [
      | inl t ↦ rw (left x t, t) refl
      | inr f ↦ elim (cases_Bool (stays x)) [ inl t ↦ rw (t, f) (any-filter q stays xs left) | inr e ↦ rw (e, f) (any-filter q stays xs left) ]
    ]

-- so what has another key than the one that goes is found as before
stays-other : {X : Type 0} (key : X → ℕ) (gone k : ℕ) → (k == gone) ≡ false → (x : X) → (key x == k) ≡ true → not (key x == gone) ≡ true
stays-other key gone k other x is = rw (eqb-true (key x) k is, other) refl

pub find-without : {X : Type 0} (key : X → ℕ) (gone k : ℕ) (xs : List X) → (k == gone) ≡ false → find (λ x. key x == k) (without key gone xs) ≡ find (λ x. key x == k) xs
find-without key gone k xs other = find-filter (λ x. key x == k) (λ x. not (key x == gone)) xs (stays-other key gone k other)

pub any-without : {X : Type 0} (key : X → ℕ) (gone k : ℕ) (xs : List X) → (k == gone) ≡ false → list_any (λ x. key x == k) (without key gone xs) ≡ list_any (λ x. key x == k) xs
any-without key gone k xs other = any-filter (λ x. key x == k) (λ x. not (key x == gone)) xs (stays-other key gone k other)

pub sum_by-filter : {X : Type 0} (p : X → Bool) (c : X → ℕ) (xs : List X) → sum_by c (filter p xs) ≤ sum_by c xs
sum_by-filter p c xs = let both = sum_by-filter_both p (λ x. not (p x)) (λ x. refl) c xs in omega arith

pub Rises-filter : {X : Type 0} (p : X → Bool) (key : X → ℕ) (xs : List X) → Rises key xs → Rises key (filter p xs)
Rises-filter p key [] rises = tt
Rises-filter p key (x ∷ xs) rises =
    elim (cases_Bool (p x)) [
      | inl t ↦ rw t (all-filter (λ y. key x < key y) p xs rises.0, Rises-filter p key xs rises.1)
      | inr e ↦ rw e (Rises-filter p key xs rises.1)
    ]
