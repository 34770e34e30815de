-- What a stamp finds where elements were changed or taken away.
use Rattle.std.proofs.Common.{◌≡◌, ℕ, ◌==◌, List, [], ◌∷◌, None, option_map, if◌then◌else◌, refl, ap, ◌∙◌, inl, inr}
use Rattle.std.specs.List.{find}
use Rattle.std.proofs.lemmas.Bool.{cases_Bool}
use Rattle.eeprom.specs.Slots.{replaced, without}
use Rattle.scql_model.proofs.ChangedLists.{key-replaced}

-- what was taken away by its key is found by it no more
pub find-gone : {X : Type 0} (key : X → ℕ) (gone k : ℕ) (xs : List X) → k ≡ gone → find (λ x. key x == k) (without key gone xs) ≡ None
find-gone key gone k [] same = refl
find-gone key gone k (x ∷ xs) same =
    elim (cases_Bool (key x == gone)) [
      | inl t ↦ rw t (find-gone key gone k xs same)
      | inr f ↦ (let other = ap (λ (n : ℕ). key x == n) same ∙ f in rw (f, other) (find-gone key gone k xs same))
    ]

-- what stands in the place of another is found by the key of both, and all else as before
pub find-replaced : {X : Type 0} (key : X → ℕ) (x : X) (k : ℕ) (xs : List X)
    → find (λ y. key y == k) (replaced key x xs) ≡ option_map (λ y. if key y == key x then x else y) (find (λ y. key y == k) xs)
find-replaced key x k [] = refl
find-replaced key x k (y ∷ ys) =
    elim (cases_Bool (key y == k)) [
      | inl t ↦ rw (key-replaced key x y, t) refl
      | inr f ↦ rw (key-replaced key x y, f) (find-replaced key x k ys)
    ]
