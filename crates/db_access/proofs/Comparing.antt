-- Octets compared one after another.
use Rattle.std.proofs.Common.{◌≡◌, ◌<◌, ◌≤◌, ◌≢◌, ℕ, suc, ◌&&◌, ◌==◌, Bool, true, false, List, [], ◌∷◌, length, min, drop, get_or, refl, sym, ap, ◌∙◌, inl, inr, arith, drop-cons, drop_of_length-le}
use Rattle.std.specs.Str.{bytes_eq}
use Rattle.std.proofs.lemmas.Bool.{cases_Bool, eqb-false}
use Rattle.std.proofs.lemmas.Slice.Eq.{bytes_eq-Decides}

-- secrets of other lengths are different
pub compared-none : (xs ys : List ℕ) → ((length xs == length ys) && bytes_eq xs ys) ≡ bytes_eq xs ys
compared-none xs ys =
    elim (cases_Bool (length xs == length ys)) [
      | inl t ↦ rw t refl
      | inr f ↦ rw f (sym (other (bytes_eq xs ys) refl (eqb-false (length xs) (length ys) f)))
    ]
  where
    other : (b : Bool) → bytes_eq xs ys ≡ b → length xs ≢ length ys → b ≡ false
    other true is apart = absurd (apart (ap length ((bytes_eq-Decides xs ys).0 is)))
    other false is apart = refl

both-first : (a b c : Bool) → ((a && b) && c) ≡ (a && (b && c))
both-first true b c = refl
both-first false b c = refl

-- one octet more of each
pub compared-more : (same : Bool) (xs ys : List ℕ) (place next : ℕ) → next ≡ suc place → place < length xs → place < length ys → (same && bytes_eq (drop place xs) (drop place ys)) ≡ bytes_eq xs ys
    → ((same && (get_or xs place 0 == get_or ys place 0)) && bytes_eq (drop next xs) (drop next ys)) ≡ bytes_eq xs ys
compared-more same xs ys place next is in_xs in_ys before =
    rw is (both-first same (get_or xs place 0 == get_or ys place 0) (bytes_eq (drop (suc place) xs) (drop (suc place) ys))
    ∙ (ap (λ (zs : List ℕ). same && bytes_eq zs (get_or ys place 0 ∷ drop (suc place) ys)) (sym (drop-cons xs place 0 in_xs)) ∙ (ap (λ (zs : List ℕ). same && bytes_eq (drop place xs) zs) (sym (drop-cons ys place 0 in_ys)) ∙ before)))

-- all octets of one
pub compared-all : (same : Bool) (xs ys : List ℕ) (place : ℕ) → min (length xs) (length ys) ≤ place → (same ≡ true → length xs ≡ length ys) → (same && bytes_eq (drop place xs) (drop place ys)) ≡ bytes_eq xs ys → same ≡ bytes_eq xs ys
compared-all false xs ys place past long left = left
compared-all true xs ys place past long left =
    let same = long refl in
    let a : drop place xs ≡ [] = drop_of_length-le xs (omega (arith, past, same)) in
    let b : drop place ys ≡ [] = drop_of_length-le ys (omega (arith, past, same)) in
    (rw (a, b) at left)
