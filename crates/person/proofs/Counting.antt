-- What is shown of a count that grows step by step.
use Rattle.std.proofs.Common.{◌≡◌, ◌⊎◌, ℕ, suc, arith, Bool, List, [], Option, refl, sym, subst, append-nil, inl, inr}
use Rattle.std.proofs.lemmas.Bool.{eq-eqb, ne_eqb}
use Rattle.person.specs.Progress.{counts_shown, end_shown, progress_text, shown_at, step_shown}
use Rattle.person.specs.Showing.{Shows}
use Rattle.person.proofs.Texts.{shows-then}

module _ {P : Type 0} (lost : P → Bool) (shown : P → Option (List ℕ)) (words : List ℕ) (each : ℕ) where
  one-counted : (before now : ℕ) (a b c : P) → (now ≡ before) ⊎ (now ≡ suc before) → Shows lost shown (counts_shown words each before) a b → Shows lost shown (step_shown words each before now) b c
      → Shows lost shown (counts_shown words each now) a c
  one-counted before now a b c (inl same) first second =
      let nothing : step_shown words each before now ≡ [] = rw (same, eq-eqb before before refl) refl in
      subst (λ (n : ℕ). Shows lost shown (counts_shown words each n) a c) (sym same)
      (subst (λ (text : List ℕ). Shows lost shown text a c) (append-nil (counts_shown words each before))
      (shows-then lost shown (counts_shown words each before) [] a b c first (subst (λ (text : List ℕ). Shows lost shown text b c) nothing second)))
  one-counted before now a b c (inr more) first second =
      let there : step_shown words each before now ≡ shown_at words each (suc before) = rw (more, ne_eqb (suc before) before (λ e. omega (arith, e))) refl in
      subst (λ (n : ℕ). Shows lost shown (counts_shown words each n) a c) (sym more)
      (shows-then lost shown (counts_shown words each before) (shown_at words each (suc before)) a b c first (subst (λ (text : List ℕ). Shows lost shown text b c) there second))

  -- a step more, which counts one or none
  pub step-counted : (before now was is : ℕ) (a b c : P) → before ≡ was → now ≡ is → (is ≡ was) ⊎ (is ≡ suc was) → Shows lost shown (counts_shown words each was) a b → Shows lost shown (step_shown words each before now) b c
      → Shows lost shown (counts_shown words each is) a c
  step-counted before now was is a b c first-is last-is grows first second =
      one-counted was is a b c grows first (subst (λ (n : ℕ). Shows lost shown (step_shown words each n is) b c) first-is (subst (λ (n : ℕ). Shows lost shown (step_shown words each before n) b c) last-is second))

  -- and at last the line is ended
  pub count-ended : (count was all : ℕ) (a b c : P) → count ≡ all → was ≡ all → Shows lost shown (counts_shown words each was) a b → Shows lost shown (end_shown each count) b c → Shows lost shown (progress_text words each all) a c
  count-ended count was all a b c count-is was-is first second =
      shows-then lost shown (counts_shown words each all) (end_shown each all) a b c (subst (λ (n : ℕ). Shows lost shown (counts_shown words each n) a b) was-is first) (subst (λ (n : ℕ). Shows lost shown (end_shown each n) b c) count-is second)
