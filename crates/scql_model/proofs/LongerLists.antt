-- What holds of a list holds of it with one element more.
use Rattle.std.proofs.Common.{◌≡◌, ℕ, ◌<◌, Bool, true, false, List, [], ◌∷◌, ◌++◌, map, Option, Some, None, not, ◌||◌, refl, sym, subst, ap, ◌∙◌, inl, inr}
use Rattle.std.specs.List.{list_all, list_any, find, filter, AllByRecursion}
use Rattle.std.specs.Option.{option_map_or, option_or}
use Rattle.std.specs.Str.{bytes_eq}
use Rattle.std.proofs.lemmas.Bool.{cases_Bool, and_parts, false≢true}
use Rattle.std.proofs.lemmas.List.Folds.{list_all-append, list_any-append, find-append}
use Rattle.std.proofs.lemmas.Option.{none-some, same_Some}
use Rattle.std.proofs.lemmas.Slice.Eq.{bytes_eq-Decides}
use Rattle.eeprom.specs.Slots.{Rises}

pub all-weaker : {X : Type 0} (p q : X → Bool) (xs : List X) → ((x : X) → p x ≡ true → q x ≡ true) → list_all p xs ≡ true → list_all q xs ≡ true
all-weaker p q [] more all = refl
all-weaker p q (x ∷ xs) more all = let parts = and_parts (p x) (list_all p xs) all in rw (more x parts.0) (all-weaker p q xs more parts.1)

-- what two tests say of each element
pub all-by_both : {X : Type 0} (p q r : X → Bool) (xs : List X) → ((x : X) → p x ≡ true → q x ≡ true → r x ≡ true) → list_all p xs ≡ true → list_all q xs ≡ true → list_all r xs ≡ true
all-by_both p q r [] both one other = refl
all-by_both p q r (x ∷ xs) both one other =
    let a = and_parts (p x) (list_all p xs) one in
    let b = and_parts (q x) (list_all q xs) other in
    rw (both x a.0 b.0) (all-by_both p q r xs both a.1 b.1)

pub all-added : {X : Type 0} (p : X → Bool) (xs : List X) (x : X) → list_all p xs ≡ true → p x ≡ true → list_all p (xs ++ x ∷ []) ≡ true
all-added p xs x all one = rw (list_all-append, all, one) refl

pub rises-added : {X : Type 0} (key : X → ℕ) (xs : List X) (x : X) → Rises key xs → AllByRecursion (λ y. key y < key x) xs → Rises key (xs ++ x ∷ [])
rises-added key [] x rises below = (tt, tt)
rises-added key (y ∷ ys) x rises below = (above_added key (key y) ys x rises.0 below.0, rises-added key ys x rises.1 below.1)
  where
    above_added : {X : Type 0} (key : X → ℕ) (k : ℕ) (xs : List X) (x : X) → AllByRecursion (λ y. k < key y) xs → k < key x → AllByRecursion (λ y. k < key y) (xs ++ x ∷ [])
    above_added key k [] x all one = (one, tt)
    above_added key k (y ∷ ys) x all one = (all.0, above_added key k ys x all.1 one)

-- texts that differ in one order differ in the other
pub not_equal-sym : (a b : List ℕ) → bytes_eq a b ≡ false → bytes_eq b a ≡ false
not_equal-sym a b f =
    elim (cases_Bool (bytes_eq b a)) [
      | inl t ↦ absurd (false≢true (sym f ∙ (bytes_eq-Decides a b).1 (sym ((bytes_eq-Decides b a).0 t))))
      | inr g ↦ g
    ]

pub find-passes : {X : Type 0} (q : X → Bool) (xs : List X) (x : X) → find q xs ≡ Some x → q x ≡ true
find-passes q [] x found = absurd (none-some x found)
find-passes q (y ∷ ys) x found =
    elim (cases_Bool (q y)) [
      | inl t ↦ subst (λ z. q z ≡ true) (same_Some y x (rw t at found)) t
      | inr f ↦ find-passes q ys x (rw f at found)
    ]

-- what is found is as all are
pub find-all : {X : Type 0} (p q : X → Bool) (xs : List X) (x : X) → list_all p xs ≡ true → find q xs ≡ Some x → p x ≡ true
find-all p q [] x all found = absurd (none-some x found)
find-all p q (y ∷ ys) x all found =
    let parts = and_parts (p y) (list_all p ys) all in
    elim (cases_Bool (q y)) [
      | inl t ↦ subst (λ z. p z ≡ true) (same_Some y x (rw t at found)) parts.0
      | inr f ↦ find-all p q ys x parts.1 (rw f at found)
    ]

-- what all that pass a test have, each has that passes it
pub all-filtered : {X : Type 0} (p r : X → Bool) (xs : List X) → list_all r (filter p xs) ≡ true → list_all (λ x. not (p x) || r x) xs ≡ true
all-filtered p r [] all = refl
all-filtered p r (x ∷ xs) all =
    elim (cases_Bool (p x)) [
      | inl t ↦ (let parts = and_parts (r x) (list_all r (filter p xs)) (rw t at all) in rw (t, parts.0) (all-filtered p r xs parts.1))
      | inr f ↦ rw f (all-filtered p r xs (rw f at all))
    ]

-- a test of what is made of the elements
pub any-map : {X Y : Type 0} (p : Y → Bool) (f : X → Y) (xs : List X) → list_any p (map f xs) ≡ list_any (λ x. p (f x)) xs
any-map p f [] = refl
any-map p f (x ∷ xs) = ap (λ rest. p (f x) || rest) (any-map p f xs)

-- what is found in a list is found in a longer one
pub found-more : {X : Type 0} (p q : X → Bool) (xs ys : List X) → option_map_or p (find q xs) false ≡ true → option_map_or p (find q (xs ++ ys)) false ≡ true
found-more p q xs ys found = rw (find-append q xs ys) (first p (find q xs) (find q ys) found)
  where
    first : {X : Type 0} (p : X → Bool) (o rest : Option X) → option_map_or p o false ≡ true → option_map_or p (option_or o rest) false ≡ true
    first p None rest found = absurd (false≢true found)
    first p (Some x) rest found = found

pub any-more : {X : Type 0} (p : X → Bool) (xs ys : List X) → list_any p xs ≡ true → list_any p (xs ++ ys) ≡ true
any-more p xs ys any = rw (list_any-append, any) refl
