-- A step over the elements of a list: what was made of those before, and what is made of those behind.
use Rattle.std.proofs.Common.{◌≡◌, ℕ, ◌+◌, ◌<◌, Bool, true, List, [], ◌∷◌, ◌++◌, length, get_or, take, drop, Option, Some, None, zero, suc, ◌≤◌, refl, sym, ap, ◌∙◌, append_assoc, drop-cons, length-append, arith}
use Rattle.std.specs.List.{filter_map, list_all, cons_option}
use Rattle.std.proofs.lemmas.Bool.{and_parts, and_from}
use Rattle.std.proofs.lemmas.List.{append-nil}
use Rattle.std.proofs.lemmas.List.Folds.{list_all_more}
use native.Mathlib.Numerals.{add-one}

module _ {X : Type 0} where
  pub drop-first : (xs : List X) (i : ℕ) (x : X) → i < length xs → x ≡ get_or xs i x → drop i xs ≡ x ∷ drop (i + 1) xs
  drop-first xs i x lt is = rw (add-one i) (drop-cons xs i x lt ∙ ap (λ y. y ∷ drop (suc i) xs) (sym is))

  pub all-next : (p : X → Bool) (xs : List X) (i : ℕ) (x : X) → i < length xs → x ≡ get_or xs i x → list_all p (take i xs) ≡ true → p x ≡ true → list_all p (take (i + 1) xs) ≡ true
  all-next p xs i x lt is all one = list_all_more p xs i x lt ∙ and_from (list_all p (take i xs)) (p (get_or xs i x)) all (sym (ap p is) ∙ one)

  module _ {Y : Type 0} (f : X → Option Y) where
    pub kind-next : (xs : List X) (i : ℕ) (x : X) (o : Option Y) → i < length xs → x ≡ get_or xs i x → f x ≡ o → filter_map f (drop i xs) ≡ cons_option o (filter_map f (drop (i + 1) xs))
    kind-next xs i x o lt is e = ap (filter_map f) (drop-first xs i x lt is) ∙ ap (λ o. cons_option o (filter_map f (drop (i + 1) xs))) e

    pub taken-one : (whole items new : List Y) (xs : List X) (i : ℕ) (x : X) (y : Y) → i < length xs → x ≡ get_or xs i x → f x ≡ Some y → new ≡ items ++ y ∷ []
        → whole ≡ items ++ filter_map f (drop i xs) → whole ≡ new ++ filter_map f (drop (i + 1) xs)
    taken-one whole items new xs i x y lt is e more taken =
        taken ∙ ap (λ ys. items ++ ys) (kind-next xs i x (Some y) lt is e) ∙ sym (append_assoc items (y ∷ []) (filter_map f (drop (i + 1) xs))) ∙ ap (λ ys. ys ++ filter_map f (drop (i + 1) xs)) (sym more)

    pub taken-none : (whole items new : List Y) (xs : List X) (i : ℕ) (x : X) → i < length xs → x ≡ get_or xs i x → f x ≡ None → new ≡ items → whole ≡ items ++ filter_map f (drop i xs) → whole ≡ new ++ filter_map f (drop (i + 1) xs)
    taken-none whole items new xs i x lt is e same taken = taken ∙ ap (λ ys. items ++ ys) (kind-next xs i x None lt is e) ∙ ap (λ ys. ys ++ filter_map f (drop (i + 1) xs)) (sym same)

pub one-more : {Y : Type 0} (items new : List Y) (y : Y) (i : ℕ) → new ≡ items ++ y ∷ [] → length items ≤ i → length new ≤ i + 1
one-more items new y i more few = let h = ap length more ∙ length-append items (y ∷ []) in omega arith

pub all-taken : {X : Type 0} (p : X → Bool) (xs : List X) (i : ℕ) → length xs ≤ i → list_all p (take i xs) ≡ true → list_all p xs ≡ true
all-taken p [] i le all = refl
all-taken p (x ∷ xs) zero le all = absurd (omega arith)
all-taken p (x ∷ xs) (suc i) le all = let parts = and_parts (p x) (list_all p (take i xs)) all in and_from (p x) (list_all p xs) parts.0 (all-taken p xs i (omega arith) parts.1)

pub none-left : {X Y : Type 0} (f : X → Option Y) (xs : List X) (i : ℕ) → length xs ≤ i → filter_map f (drop i xs) ≡ []
none-left f [] zero le = refl
none-left f [] (suc i) le = refl
none-left f (x ∷ xs) zero le = absurd (omega arith)
none-left f (x ∷ xs) (suc i) le = none-left f xs i (omega arith)

pub all-made : {X Y : Type 0} (f : X → Option Y) (xs : List X) (i : ℕ) (whole items : List Y) → length xs ≤ i → whole ≡ items ++ filter_map f (drop i xs) → items ≡ whole
all-made f xs i whole items le taken = sym (taken ∙ ap (λ ys. items ++ ys) (none-left f xs i le) ∙ append-nil items)
