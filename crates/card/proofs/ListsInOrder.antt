-- Lists in rising order of a key, and what is made of their elements.
use Rattle.std.proofs.Common.{◌≡◌, ℕ, ◌<◌, Bool, true, false, ◌&&◌, ltb, List, [], ◌∷◌, Option, Some, None, refl, sym, ap, ◌∙◌, inl, inr, arith}
use Rattle.std.specs.List.{list_all, filter_map, cons_option, AllByRecursion}
use Rattle.std.specs.Option.{option_and_then}
use Rattle.std.proofs.lemmas.Bool.{cases_Bool, ltb-true}
use Rattle.eeprom.specs.Slots.{AreApart, Rises, has, in_order, put_in_order}
use Rattle.scql_model.proofs.ChangedLists.{each-weaker}
use Rattle.eeprom.proofs.InOrder.{count_by-cons, put_in_order-first, Rises-in_order}

pub all-filter_map : {X Y : Type 0} (P : X → Type 0) (Q : Y → Type 0) (h : X → Option Y) (xs : List X) → ((x : X) (y : Y) → h x ≡ Some y → P x → Q y) → AllByRecursion P xs → AllByRecursion Q (filter_map h xs)
all-filter_map P Q h [] f all = tt
all-filter_map {X} {Y} P Q h (x ∷ xs) f all = go (h x) refl (all-filter_map P Q h xs f all.1)
  where
    go : (o : Option Y) → h x ≡ o → AllByRecursion Q (filter_map h xs) → AllByRecursion Q (cons_option o (filter_map h xs))
    go None is rest = rest
    go (Some y) is rest = (f x y is all.0, rest)

-- an element or none goes to its place
put_option : {X : Type 0} → (X → ℕ) → Option X → List X → List X
put_option key None xs = xs
put_option key (Some x) xs = put_in_order key x xs

filter_map-put_in_order : {X Y : Type 0} (key : X → ℕ) (key' : Y → ℕ) (h : X → Option Y) (x : X) (zs : List X) → ((x : X) (y : Y) → h x ≡ Some y → key' y ≡ key x) → Rises key zs
    → filter_map h (put_in_order key x zs) ≡ put_option key' (h x) (filter_map h zs)
unfolding put_option
filter_map-put_in_order {X} {Y} key key' h x [] same rises = go (h x)
  where
    go : (o : Option Y) → cons_option o [] ≡ put_option key' o []
    go None = refl
    go (Some y) = refl
filter_map-put_in_order {X} {Y} key key' h x (z ∷ zs) same rises =
    elim (cases_Bool (ltb (key x) (key z))) [
      | inl t ↦ rw t (first t (h x) refl)
      | inr f ↦ rw f (ap (cons_option (h z)) (filter_map-put_in_order key key' h x zs same rises.1) ∙ later f (h x) (h z) refl refl)
    ]
  where
    first : ltb (key x) (key z) ≡ true → (o : Option Y) → h x ≡ o → cons_option o (filter_map h (z ∷ zs)) ≡ put_option key' o (filter_map h (z ∷ zs))
    first t None is = refl
    first t (Some y) is =
        let less = ltb-true (key x) (key z) t in
        let all : AllByRecursion (λ w. key x < key w) (z ∷ zs) = (less, each-weaker (λ w. key z < key w) (λ w. key x < key w) zs (λ w h. omega arith) rises.0) in
        sym (put_in_order-first key' y (filter_map h (z ∷ zs)) (all-filter_map (λ w. key x < key w) (λ w. key' y < key' w) h (z ∷ zs) (λ w v at above. let a = same x y is in let b = same w v at in omega arith) all))

    later : ltb (key x) (key z) ≡ false → (o p : Option Y) → h x ≡ o → h z ≡ p → cons_option p (put_option key' o (filter_map h zs)) ≡ put_option key' o (cons_option p (filter_map h zs))
    later f None p is at = refl
    later f (Some y) None is at = refl
    later f (Some y) (Some w) is at = rw (same x y is, same z w at, f) refl

-- what is made of some elements rises as these do
pub filter_map-in_order : {X Y : Type 0} (key : X → ℕ) (key' : Y → ℕ) (h : X → Option Y) (xs : List X) → ((x : X) (y : Y) → h x ≡ Some y → key' y ≡ key x) → AreApart key xs
    → filter_map h (in_order key xs) ≡ in_order key' (filter_map h xs)
unfolding put_option
filter_map-in_order key key' h [] same apart = refl
filter_map-in_order {X} {Y} key key' h (x ∷ xs) same apart =
    let tail : AreApart key xs = λ k. (let a = count_by-cons (has key k) x xs in let b = apart k in omega arith) in
    filter_map-put_in_order key key' h x (in_order key xs) same (Rises-in_order key xs tail) ∙ ap (put_option key' (h x)) (filter_map-in_order key key' h xs same tail) ∙ go (h x)
  where
    go : (o : Option Y) → put_option key' o (in_order key' (filter_map h xs)) ≡ in_order key' (cons_option o (filter_map h xs))
    go None = refl
    go (Some y) = refl

pub filter_map-cons_option : {X Y : Type 0} (h : X → Option Y) (o : Option X) (xs : List X) → filter_map h (cons_option o xs) ≡ cons_option (option_and_then h o) (filter_map h xs)
filter_map-cons_option h None xs = refl
filter_map-cons_option h (Some x) xs = refl

and-swap : (a b c d : Bool) → ((a && b) && (c && d)) ≡ ((a && c) && (b && d))
and-swap true b true d = refl
and-swap true true false d = refl
and-swap true false false d = refl
and-swap false b c d = refl

pub and-same : {a b c d : Bool} → a ≡ b → c ≡ d → (a && c) ≡ (b && d)
and-same e f = rw (e, f) refl

pub list_all-both : {X : Type 0} (p q : X → Bool) (xs : List X) → list_all (λ x. p x && q x) xs ≡ (list_all p xs && list_all q xs)
list_all-both p q [] = refl
list_all-both p q (x ∷ xs) = ap (λ rest. (p x && q x) && rest) (list_all-both p q xs) ∙ and-swap (p x) (q x) (list_all p xs) (list_all q xs)
