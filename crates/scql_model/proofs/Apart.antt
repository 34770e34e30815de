-- Elements of which no two are the same by a test: with one more, and fewer.
use Rattle.std.proofs.Common.{◌≡◌, Bool, true, false, List, [], ◌∷◌, ◌++◌, map, filter, not, refl, sym, inl, inr}
use Rattle.std.specs.List.{list_any}
use Rattle.std.proofs.lemmas.Bool.{cases_Bool, and_parts, and_from, not-true, false≢true}
use Rattle.std.proofs.lemmas.List.Folds.{list_any-append}
use Rattle.scql_model.specs.Rules.{are_apart_by}
use Rattle.scql_model.proofs.LongerLists.{any-map}

-- one element more, where the test doesn't mind the order of the two
pub apart_by-added : {X : Type 0} (same : X → X → Bool) (xs : List X) (x : X) → ((a b : X) → same a b ≡ false → same b a ≡ false) → are_apart_by same xs ≡ true → list_any (same x) xs ≡ false
    → are_apart_by same (xs ++ x ∷ []) ≡ true
apart_by-added same [] x turned apart none = refl
apart_by-added same (y ∷ ys) x turned apart none =
    let parts = and_parts (not (list_any (same y) ys)) (are_apart_by same ys) apart in
    elim (cases_Bool (same x y)) [
      | inl t ↦ absurd (false≢true (sym (rw t at none)))
      | inr f ↦ (let other : same y x ≡ false = turned x y f in
          let none' : list_any (same y) (ys ++ x ∷ []) ≡ false = rw (list_any-append, not-true (list_any (same y) ys) parts.0, other) refl in
          and_from (not (list_any (same y) (ys ++ x ∷ []))) (are_apart_by same (ys ++ x ∷ [])) (rw none' refl) (apart_by-added same ys x turned parts.1 (rw f at none)))
    ]

pub list_any-filter : {X : Type 0} (p q : X → Bool) (xs : List X) → list_any q xs ≡ false → list_any q (filter p xs) ≡ false
list_any-filter p q [] none = refl
list_any-filter p q (x ∷ xs) none =
    elim (cases_Bool (q x)) [
      | inl t ↦ absurd (false≢true (sym (rw t at none)))
      | inr f ↦ (let rest = list_any-filter p q xs (rw f at none) in
          elim (cases_Bool (p x)) [ inl t ↦ rw (t, f) rest | inr e ↦ rw e rest ])
    ]

pub apart_by-filter : {X : Type 0} (same : X → X → Bool) (p : X → Bool) (xs : List X) → are_apart_by same xs ≡ true → are_apart_by same (filter p xs) ≡ true
apart_by-filter same p [] apart = refl
apart_by-filter same p (x ∷ xs) apart =
    let parts = and_parts (not (list_any (same x) xs)) (are_apart_by same xs) apart in
    let rest = apart_by-filter same p xs parts.1 in
    elim (cases_Bool (p x)) [
      | inl t ↦ rw (t, list_any-filter p (same x) xs (not-true (list_any (same x) xs) parts.0)) rest
      | inr e ↦ rw e rest
    ]

-- what is made of the elements
pub apart_by-map : {X Y : Type 0} (same : Y → Y → Bool) (h : X → Y) (xs : List X) → are_apart_by same (map h xs) ≡ are_apart_by (λ a b. same (h a) (h b)) xs
apart_by-map same h [] = refl
apart_by-map same h (x ∷ xs) = rw (any-map (same (h x)) h xs, apart_by-map same h xs) refl
