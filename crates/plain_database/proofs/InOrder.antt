-- Where a record goes among others.
use Rattle.std.proofs.Common.{◌≡◌, ◌+◌, ℕ, suc, Bool, List, [], ◌∷◌, length, refl, ap, ◌∙◌, inl, inr, arith}
use Rattle.std.specs.Prelude.{nat_lt, not, unwrap_or}
use Rattle.std.specs.List.{insert, position, position_or_len}
use Rattle.std.proofs.lemmas.Bool.{cases_Bool, ltb-false}
use Rattle.std.proofs.lemmas.List.Sums.{prefix_len-le-length}
use Rattle.eeprom.specs.Slots.{put_in_order}

put-before : {X : Type 0} (key : X → ℕ) (x : X) (xs : List X) → insert xs (position_or_len (λ y. nat_lt (key x) (key y)) xs) x ≡ put_in_order key x xs
put-before key x [] = refl
put-before key x (y ∷ ys) = elim (cases_Bool (nat_lt (key x) (key y))) [
  | inl t ↦ rw t refl
  | inr f ↦ rw f (one-more x y ys (position_or_len (λ y. nat_lt (key x) (key y)) ys) ∙ ap (λ rest. y ∷ rest) (put-before key x ys))
]
  where
    one-more : {X : Type 0} (x y : X) (ys : List X) (n : ℕ) → insert (y ∷ ys) (1 + n) x ≡ y ∷ insert ys n x
    one-more x y ys n = let e : 1 + n ≡ suc n = omega arith in rw e refl

or_len : {X : Type 0} (p : X → Bool) (xs : List X) → unwrap_or (position p xs) (length xs) ≡ position_or_len p xs
or_len p xs = elim (cases_Bool (nat_lt (position_or_len p xs) (length xs))) [
  | inl t ↦ rw t refl
  | inr f ↦ (let most = prefix_len-le-length (λ x. not (p x)) xs in
      let least = ltb-false (position_or_len p xs) (length xs) f in
      let same : length xs ≡ position_or_len p xs = omega arith in
      rw f same)
]

-- A record at the place of the first of a greater key, or behind all, is in order.
pub put-inserted : {X : Type 0} (key : X → ℕ) (x : X) (xs : List X) → insert xs (unwrap_or (position (λ y. nat_lt (key x) (key y)) xs) (length xs)) x ≡ put_in_order key x xs
put-inserted key x xs = rw (or_len (λ y. nat_lt (key x) (key y)) xs) (put-before key x xs)
