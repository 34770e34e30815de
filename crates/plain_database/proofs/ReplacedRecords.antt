-- A record in the place of the one that has its stamp.
use Rattle.std.proofs.Common.{◌≡◌, ℕ, zero, suc, ◌+◌, ◌<◌, true, false, List, [], ◌∷◌, get_or, length, Some, None, refl, sym, ap, ◌∙◌, inl, inr, arith}
use Rattle.std.specs.List.{position, position_from}
use Rattle.std.proofs.Math.ListN.{set}
use Rattle.std.proofs.lemmas.Bool.{cases_Bool, eqb-true}
use Rattle.std.proofs.lemmas.Iterator.Adapters.{position_from-zero}
use Rattle.std.proofs.lemmas.List.Quantifiers.{position-Some}
use Rattle.std.proofs.lemmas.Option.{none-some}
use Rattle.eeprom.specs.Slots.{Rises, has, replaced}
use Rattle.eeprom.proofs.InOrder.{count-above, replaced-none}

-- where keys rise, the first element of a key is the only one
replaced-first : {X : Type 0} (key : X → ℕ) (x : X) (xs : List X) (i : ℕ) → Rises key xs → i < length xs → has key (key x) (get_or xs i x) ≡ true
    → ((k : ℕ) → k < i → has key (key x) (get_or xs k x) ≡ false) → set xs i x ≡ replaced key x xs
replaced-first key x [] i rises within hit misses = absurd (omega arith)
replaced-first key x (y ∷ ys) zero rises within hit misses =
    let same : key y ≡ key x = eqb-true (key y) (key x) hit in
    let none = count-above key (key x) ys (rw same at rises.0) in
    rw hit (ap (λ rest. x ∷ rest) (sym (replaced-none key x ys none)))
replaced-first key x (y ∷ ys) (suc i) rises within hit misses =
    let other : has key (key x) y ≡ false = misses 0 (omega arith) in
    rw other (ap (λ rest. y ∷ rest) (replaced-first key x ys i rises.1 (omega arith) hit (λ k less. misses (suc k) (omega arith))))

pub replaced-Some : {X : Type 0} (key : X → ℕ) (x : X) (xs : List X) (i : ℕ) → Rises key xs → position (has key (key x)) xs ≡ Some i → set xs i x ≡ replaced key x xs
replaced-Some key x xs i rises found = (let there = position-Some (has key (key x)) xs i x found in replaced-first key x xs i rises there.0 there.1 there.2)

-- where there is none, all stay
pub replaced-None : {X : Type 0} (key : X → ℕ) (x : X) (xs : List X) → position (has key (key x)) xs ≡ None → xs ≡ replaced key x xs
replaced-None {X = X} key x xs none = none-from xs 0 (sym (position_from-zero (has key (key x)) xs) ∙ none)
  where
    none-from : (xs : List X) (i : ℕ) → position_from (has key (key x)) i xs ≡ None → xs ≡ replaced key x xs
    none-from [] i none = refl
    none-from (y ∷ ys) i none = elim (cases_Bool (has key (key x) y)) [
      | inl t ↦ absurd (none-some i (sym (rw t at none)))
      | inr f ↦ rw f (ap (λ rest. y ∷ rest) (none-from ys (i + 1) (rw f at none)))
    ]
