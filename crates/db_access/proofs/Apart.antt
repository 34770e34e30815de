-- Of records that are apart one at most passes a test that makes two the same.
use Rattle.std.proofs.Common.{◌≡◌, ◌≤◌, Bool, true, false, not, List, [], ◌∷◌, count_by, lit≤, refl, sym, ◌∙◌, arith, inl, inr}
use Rattle.std.specs.List.{list_any}
use Rattle.std.proofs.lemmas.Bool.{cases_Bool, false≢true, and_parts, not-true, or_parts}
use Rattle.eeprom.proofs.InOrder.{count_by-cons}
use Rattle.scql_model.specs.Rules.{are_apart_by}

module _ {X : Type 0} (same : X → X → Bool) (p : X → Bool) (alike : (x y : X) → p x ≡ true → p y ≡ true → same x y ≡ true) where
  none-more : (x : X) → p x ≡ true → (xs : List X) → list_any (same x) xs ≡ false → count_by p xs ≡ 0
  none-more x passes [] none = refl
  none-more x passes (y ∷ ys) none =
      let parts = or_parts (same x y) (list_any (same x) ys) none in
      elim (cases_Bool (p y)) [
        | inl t ↦ absurd (false≢true (sym parts.0 ∙ alike x y passes t))
        | inr f ↦ (let rest : count_by p ys ≡ 0 = none-more x passes ys parts.1 in rw (count_by-cons, f) (omega (arith, rest)))
      ]

  pub one-apart : (xs : List X) → are_apart_by same xs ≡ true → count_by p xs ≤ 1
  one-apart [] apart = lit≤ tt
  one-apart (x ∷ xs) apart =
      let parts = and_parts (not (list_any (same x) xs)) (are_apart_by same xs) apart in
      elim (cases_Bool (p x)) [
        | inl t ↦ (let none : count_by p xs ≡ 0 = none-more x t xs (not-true (list_any (same x) xs) parts.0) in rw (count_by-cons, t) (omega (arith, none)))
        | inr f ↦ (let rest : count_by p xs ≤ 1 = one-apart xs parts.1 in rw (count_by-cons, f) (omega (arith, rest)))
      ]
