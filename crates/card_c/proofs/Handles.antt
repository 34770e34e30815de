-- A call on the card of a handle: it was taken out of the handle, and put back behind it.
use Rattle.std.proofs.Common.{◌≡◌, ◌≢◌, ℕ, Option, Some, None, refl, sym, subst, ◌∙◌}
use Rattle.std.proofs.lemmas.Option.{same_Some}
use Rattle.card_c.specs.Calls.{CallsHeld, LooksAt}
use Rattle.card_c.specs.HeldCard.{HeldCard}
use Rattle.card_c.specs.declared.status.TheConstants.{WRONG_HANDLE}

not-none : {A : Type 0} (was : A) (handle : Option A) → Some was ≡ handle → handle ≡ None → ⊥
not-none was handle is none = let both : Some was ≡ None = is ∙ none in cc

pub called : (call : HeldCard → HeldCard → ℕ → Type 0) (unused : Type 0) (before after : Option HeldCard) (result : ℕ) (was now : HeldCard) → Some was ≡ before → after ≡ Some now → result ≢ WRONG_HANDLE → call was now result
    → CallsHeld call unused before after result
called call unused before after result was now is put told calls = record {
  handle = (λ wrong. absurd (told wrong), λ none. absurd (not-none was before is none));
  empty = λ none. absurd (not-none was before is none);
  held = λ old there. (now, put, subst (λ (held : HeldCard). call held now result) (same_Some was old (is ∙ there)) calls);
}

pub looked-at : (call : HeldCard → ℕ → Type 0) (unused : Type 0) (before after : Option HeldCard) (result : ℕ) (was : HeldCard) → Some was ≡ before → after ≡ Some was → result ≢ WRONG_HANDLE → call was result
    → LooksAt call unused before after result
looked-at call unused before after result was is put told calls = record {
  same = put ∙ is;
  handle = (λ wrong. absurd (told wrong), λ none. absurd (not-none was before is none));
  empty = λ none. absurd (not-none was before is none);
  held = λ held there. subst (λ (held : HeldCard). call held result) (same_Some was held (is ∙ there)) calls;
}

-- A handle that holds no card.
pub none-called : (call : HeldCard → HeldCard → ℕ → Type 0) (unused : Type 0) (before after : Option HeldCard) → None ≡ before → after ≡ None → unused → CallsHeld call unused before after WRONG_HANDLE
none-called call unused before after is none same = record {
  handle = (λ wrong. sym is, λ empty. refl);
  empty = λ empty. (none, same);
  held = λ old there. absurd (not-none old before (sym there) (sym is));
}

pub none-looked-at : (call : HeldCard → ℕ → Type 0) (unused : Type 0) (before after : Option HeldCard) → None ≡ before → after ≡ None → unused → LooksAt call unused before after WRONG_HANDLE
none-looked-at call unused before after is none same = record {
  same = none ∙ is;
  handle = (λ wrong. sym is, λ empty. refl);
  empty = λ empty. same;
  held = λ held there. absurd (not-none held before (sym there) (sym is));
}
