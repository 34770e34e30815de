-- Octets that are the same, or not.
use Rattle.std.proofs.Common.{◌≡◌, ℕ, false, List, [], ◌∷◌, ◌++◌, refl, inl, inr}
use Rattle.std.specs.Str.{bytes_eq}
use Rattle.std.proofs.lemmas.Bool.{cases_Bool}
use Rattle.std.proofs.lemmas.Bool.Decides.{Decides-eqb}
use Rattle.std.proofs.lemmas.Slice.Eq.{bytes_eq-Decides}

-- what stands behind the same octets
pub bytes_eq-behind : (first xs ys : List ℕ) → bytes_eq (first ++ xs) (first ++ ys) ≡ bytes_eq xs ys
bytes_eq-behind [] xs ys = refl
bytes_eq-behind (octet ∷ first) xs ys = rw ((Decides-eqb octet octet).1 refl) (bytes_eq-behind first xs ys)

-- others aren't the same
pub bytes_eq-other : (xs ys : List ℕ) → (xs ≡ ys → ⊥) → bytes_eq xs ys ≡ false
bytes_eq-other xs ys other =
    elim (cases_Bool (bytes_eq xs ys)) [
      | inl t ↦ absurd (other ((bytes_eq-Decides xs ys).0 t))
      | inr f ↦ f
    ]
