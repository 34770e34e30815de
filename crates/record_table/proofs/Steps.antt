-- What is told of the slots of a store after one change of the working side, and after two.
use Rattle.std.proofs.Common.{◌≡◌, ℕ, false, List, Option, Some, None, refl, sym, ap, subst, ◌∙◌}
use Rattle.std.specs.Prelude.{IfSome, IsSome, is_some, option_and_then}
use Rattle.std.proofs.lemmas.Bool.{false≢true}
use Rattle.std.proofs.lemmas.Option.{none-some, same_Some}
use Rattle.eeprom.specs.Chip.{Chip, Becomes}
use Rattle.eeprom.specs.StoreOf.{Slots}
use Rattle.record_store.specs.Held.{Held, StandsFor, contents}
use Rattle.record_store.specs.declared.side.Side.{Side}
use Rattle.record_store.specs.declared.side.Side.TheVariants.{Committed, Working}
use Rattle.record_table.specs.Changed.{Rewrites}
use Rattle.record_table.specs.Listed.{slots_of}

-- one step and then another
abbrev pub Both : {A : Type 0} → (A → A → Type 0) → (A → A → Type 0) → A → A → Type 0
Both {A} first second old new = (mid : A) × first old mid × second mid new

pub becomes-both : {A : Type 0} (first second : A → A → Type 0) (a b c : Option A) → Becomes first a b → Becomes second b c → Becomes (Both first second) a c
becomes-both first second a b c one two = λ after told.
    let then = two after told in
    let before = one then.0 then.1 in
    (before.0, before.1, (then.0, before.2, then.2))

pub rewrites-both : (first second : Slots → Slots → Type 0) (a b c : Held) (i j k : Option (List ℕ)) → Becomes (Rewrites first a b) i j → Becomes (Rewrites second b c) j k
    → Becomes (Rewrites (Both first second) a c) i k
rewrites-both first second a b c i j k one two = λ after told.
    let then = two after told in
    let before = one then.0 then.1 in (
      before.0,
      before.1,
      record {
        stands = then.2.stands;
        committed = then.2.committed ∙ before.2.committed;
        working = λ was is.
            let mid = before.2.working was is in
            let end = then.2.working mid.0 mid.1 in
            (end.0, end.1, (mid.0, mid.2, end.2));
      },
    )

-- the image of which slots are told
pub told-image : (store : Held) (side : Side) (chip : Chip) (slots : Slots) → slots_of store side chip ≡ Some slots → (image : List ℕ) × (chip.image ≡ Some image) × (contents store side image ≡ Some slots)
told-image store side chip slots told = go chip.image refl told
  where
    go : (o : Option (List ℕ)) → chip.image ≡ o → option_and_then (contents store side) o ≡ Some slots → (image : List ℕ) × (chip.image ≡ Some image) × (contents store side image ≡ Some slots)
    go None is none = absurd (none-some slots none)
    go (Some image) is there = (image, is, there)

-- what is told
pub some-told : {A : Type 0} (o : Option A) → IsSome o → (x : A) × (o ≡ Some x)
some-told None is = absurd (false≢true is)
some-told (Some x) is = (x, refl)

-- what a store over an EEPROM tells becomes what it tells after the step
pub slots-told : (step : Slots → Slots → Type 0) (old new : Held) (before after : Chip) → IfSome before.image (StandsFor old) → Becomes (Rewrites step old new) before.image after.image
    → Becomes step (slots_of old Working before) (slots_of new Working after)
slots-told step old new before after stands rewrites = λ now told.
    let image = told-image new Working after now told in
    let was = rewrites image.0 image.1 in
    let there = some-told (contents old Working was.0) (subst (λ o. IfSome o (StandsFor old)) was.1 stands).working in
    let old_slots = there.0 in
    let step_on = was.2.working old_slots there.1 in (
      old_slots,
      ap (option_and_then (contents old Working)) was.1 ∙ there.1,
      subst (step old_slots) (same_Some _ _ (sym step_on.1 ∙ image.2)) step_on.2,
    )

-- The slots after a step that is told.
pub record StepsTo (step : Slots → Slots → Type 0) (old new : Held) (before after : Chip) (was : Slots) : Type 0 where
  pub now : Slots
  pub told : slots_of new Working after ≡ Some now
  pub is : step was now
  pub committed : slots_of new Committed after ≡ slots_of old Committed before

pub StepsTo-told : (step : Slots → Slots → Type 0) (old new : Held) (before after : Chip) (was : Slots) → slots_of old Working before ≡ Some was → is_some after.image ≡ is_some before.image
    → Becomes (Rewrites step old new) before.image after.image → StepsTo step old new before after was
StepsTo-told step old new before after was told both rewrites = go after.image refl
  where
    image : (image : List ℕ) × (before.image ≡ Some image) × (contents old Working image ≡ Some was)
    image = told-image old Working before was told

    go : (o : Option (List ℕ)) → after.image ≡ o → StepsTo step old new before after was
    go None none = absurd (false≢true (ap is_some (sym none) ∙ (both ∙ ap is_some image.1)))
    go (Some left) is =
        let r = rewrites left is in
        let same : r.0 ≡ image.0 = same_Some _ _ (sym r.1 ∙ image.1) in
        let step_on = r.2.working was (ap (contents old Working) same ∙ image.2) in
        record {
          now = step_on.0;
          told = ap (option_and_then (contents new Working)) is ∙ step_on.1;
          is = step_on.2;
          committed = ap (option_and_then (contents new Committed)) is ∙ (r.2.committed ∙ ap (option_and_then (contents old Committed)) (sym r.1));
        }

none-untold : {A : Type 0} (o : Option A) → is_some o ≡ false → o ≡ None
none-untold None is = refl
none-untold (Some x) is = absurd (false≢true (sym is))

-- what is committed stays, whether or not it is told
pub committed-stays : (step : Slots → Slots → Type 0) (old new : Held) (before after : Chip) → is_some after.image ≡ is_some before.image → Becomes (Rewrites step old new) before.image after.image
    → slots_of new Committed after ≡ slots_of old Committed before
committed-stays step old new before after told rewrites = go after.image refl
  where
    go : (o : Option (List ℕ)) → after.image ≡ o → slots_of new Committed after ≡ slots_of old Committed before
    go None is =
        let none = none-untold before.image (sym told ∙ ap is_some is) in
        ap (option_and_then (contents new Committed)) is ∙ sym (ap (option_and_then (contents old Committed)) none)
    go (Some left) is =
        let r = rewrites left is in
        ap (option_and_then (contents new Committed)) is ∙ (r.2.committed ∙ ap (option_and_then (contents old Committed)) (sym r.1))

-- what no slots can tell is untold, before and after
pub unless-told : (old new : Held) (side : Side) (before after : Chip) → IfSome before.image (StandsFor old) → is_some after.image ≡ is_some before.image → ((slots : Slots) → slots_of old Working before ≡ Some slots → ⊥)
    → slots_of new side after ≡ slots_of old side before
unless-told old new side before after stands told never = go before.image refl
  where
    go : (o : Option (List ℕ)) → before.image ≡ o → slots_of new side after ≡ slots_of old side before
    go None is =
        let none = none-untold after.image (told ∙ ap is_some is) in
        ap (option_and_then (contents new side)) none ∙ sym (ap (option_and_then (contents old side)) is)
    go (Some image) is =
        let there = some-told (contents old Working image) (subst (λ o. IfSome o (StandsFor old)) is stands).working in
        absurd (never there.0 (ap (option_and_then (contents old Working)) is ∙ there.1))

-- nothing was done
pub slots-same : (old new : Held) (side : Side) (before after : Chip) → new ≡ old → after ≡ before → slots_of new side after ≡ slots_of old side before
slots-same old new side before after store chip = ap (λ s. slots_of s side after) store ∙ ap (slots_of old side) chip
