-- What is kept of lists in order, and what holds of all in them.
use Rattle.std.proofs.Common.{◌≡◌, ℕ, ◌<◌, ◌≤◌, Bool, cond, ltb, List, [], ◌∷◌, inl, inr, refl, sym, ap, ◌∙◌, arith}
use Rattle.std.specs.List.{filter, AllByRecursion}
use Rattle.std.proofs.lemmas.Bool.{cases_Bool, ltb-true, ltb-false, lt-ltb}
use Rattle.eeprom.specs.Slots.{in_order, put_in_order}

-- what holds of all holds of all in order
pub all-put_in_order : {X : Type 0} (key : X → ℕ) (P : X → Type 0) (x : X) (xs : List X) → P x → AllByRecursion P xs → AllByRecursion P (put_in_order key x xs)
all-put_in_order key P x [] here all = (here, tt)
all-put_in_order key P x (y ∷ ys) here all =
    elim (cases_Bool (ltb (key x) (key y))) [
      | inl t ↦ rw t (here, all)
      | inr f ↦ rw f (all.0, all-put_in_order key P x ys here all.1)
    ]

pub all-in_order : {X : Type 0} (key : X → ℕ) (P : X → Type 0) (xs : List X) → AllByRecursion P xs → AllByRecursion P (in_order key xs)
all-in_order key P [] all = tt
all-in_order key P (x ∷ xs) all = all-put_in_order key P x (in_order key xs) all.0 (all-in_order key P xs all.1)

-- and the other way round
all-parts : {X : Type 0} (key : X → ℕ) (P : X → Type 0) (x : X) (xs : List X) → AllByRecursion P (put_in_order key x xs) → P x × AllByRecursion P xs
all-parts key P x [] all = (all.0, tt)
all-parts key P x (y ∷ ys) all =
    elim (cases_Bool (ltb (key x) (key y))) [
      | inl t ↦ (let both = rw t at all in (both.0, both.1))
      | inr f ↦ (let both = rw f at all in let rest = all-parts key P x ys both.1 in (rest.0, (both.0, rest.1)))
    ]

pub all-out_of_order : {X : Type 0} (key : X → ℕ) (P : X → Type 0) (xs : List X) → AllByRecursion P (in_order key xs) → AllByRecursion P xs
all-out_of_order key P [] all = tt
all-out_of_order key P (x ∷ xs) all = let parts = all-parts key P x (in_order key xs) all in (parts.0, all-out_of_order key P xs parts.1)

-- whether keys never fall; so they are in order
abbrev pub NeverFalls : {X : Type 0} → (X → ℕ) → List X → Type 0
NeverFalls key [] = Unit {0}
NeverFalls key (x ∷ xs) = AllByRecursion (λ y. key x ≤ key y) xs × NeverFalls key xs

put_all : {X : Type 0} (key : X → ℕ) (P : X → Type 0) (x : X) (xs : List X) → P x → AllByRecursion P xs → AllByRecursion P (put_in_order key x xs)
put_all key P x [] here all = (here, tt)
put_all key P x (y ∷ ys) here all =
    elim (cases_Bool (ltb (key x) (key y))) [
      | inl t ↦ rw t (here, all)
      | inr f ↦ rw f (all.0, put_all key P x ys here all.1)
    ]

weaker : {X : Type 0} (key : X → ℕ) (k m : ℕ) (xs : List X) → k ≤ m → AllByRecursion (λ y. m ≤ key y) xs → AllByRecursion (λ y. k ≤ key y) xs
weaker key k m [] le all = tt
weaker key k m (x ∷ xs) le all = (omega (arith, all.0), weaker key k m xs le all.1)

NeverFalls-put : {X : Type 0} (key : X → ℕ) (x : X) (xs : List X) → NeverFalls key xs → NeverFalls key (put_in_order key x xs)
NeverFalls-put key x [] up = (tt, tt)
NeverFalls-put key x (y ∷ ys) up =
    elim (cases_Bool (ltb (key x) (key y))) [
      | inl t ↦ (let less = ltb-true (key x) (key y) t in rw t ((omega arith, weaker key (key x) (key y) ys (omega arith) up.0), up))
      | inr f ↦ (let most = ltb-false (key x) (key y) f in rw f (put_all key (λ z. key y ≤ key z) x ys most up.0, NeverFalls-put key x ys up.1))
    ]

NeverFalls-in_order : {X : Type 0} (key : X → ℕ) (xs : List X) → NeverFalls key (in_order key xs)
NeverFalls-in_order key [] = tt
NeverFalls-in_order key (x ∷ xs) = NeverFalls-put key x (in_order key xs) (NeverFalls-in_order key xs)

-- an element goes before the first of those that are left as among all
put-first : {X : Type 0} (key : X → ℕ) (p : X → Bool) (x : X) (k : ℕ) (xs : List X) → key x < k → AllByRecursion (λ y. k ≤ key y) xs → put_in_order key x (filter p xs) ≡ x ∷ filter p xs
put-first key p x k [] less all = refl
put-first key p x k (y ∷ ys) less all =
    elim (cases_Bool (p y)) [
      | inl t ↦ rw (t, lt-ltb (key x) (key y) (omega (arith, all.0))) refl
      | inr f ↦ rw f (put-first key p x k ys less all.1)
    ]

filter-put : {X : Type 0} (key : X → ℕ) (p : X → Bool) (x : X) (xs : List X) → NeverFalls key xs → filter p (put_in_order key x xs) ≡ cond (p x) (put_in_order key x (filter p xs)) (filter p xs)
filter-put key p x [] up = refl
filter-put key p x (y ∷ ys) up =
    elim (cases_Bool (ltb (key x) (key y))) [
      | inl t ↦ (let less = ltb-true (key x) (key y) t in
          let first = put-first key p x (key y) (y ∷ ys) less (omega arith, up.0) in
          rw t (ap (λ kept. cond (p x) kept (filter p (y ∷ ys))) (sym first)))
      | inr f ↦ (let rest = filter-put key p x ys up.1 in
          elim (cases_Bool (p y)) [
            | inl t ↦ elim (cases_Bool (p x)) [
              | inl u ↦ (let r = rw u at rest in rw (f, t, u, f) (ap (λ zs. y ∷ zs) r))
              | inr g ↦ (let r = rw g at rest in rw (f, t, g) (ap (λ zs. y ∷ zs) r))
            ]
            | inr g ↦ rw (f, g) rest
          ])
    ]

pub filter-in_order_all : {X : Type 0} (key : X → ℕ) (p : X → Bool) (xs : List X) → filter p (in_order key xs) ≡ in_order key (filter p xs)
filter-in_order_all key p [] = refl
filter-in_order_all key p (x ∷ xs) =
    filter-put key p x (in_order key xs) (NeverFalls-in_order key xs)
    ∙ elim (cases_Bool (p x)) [
      | inl t ↦ rw t (ap (put_in_order key x) (filter-in_order_all key p xs))
      | inr f ↦ rw f (filter-in_order_all key p xs)
    ]
