-- Entries in the order of their slots.
use Rattle.std.proofs.Common.{◌≡◌, ℕ, ◌+◌, ◌-◌, ◌<◌, ◌≤◌, List, [], ◌∷◌, ◌++◌, length, get_or, refl, sym, ap, ◌∙◌, arith, subst, length-append}
use Rattle.std.specs.List.Sorted.{IsNonDecreasing}
use Rattle.std.proofs.lemmas.List.{get_or-append_right}
use Rattle.std.proofs.lemmas.List.Sorted.{IsNonDecreasingBy-push, IsNonDecreasingBy-short}
use Rattle.eeprom.specs.declared.entry.Entry.{Entry}
use Rattle.record_store.specs.Touched.{AreInOrder}

-- they are in order, and none is behind a slot from this one on
pub record RisesTo (slots : List ℕ) (i : ℕ) (entries : List Entry) : Type 0 where
  pub rising : AreInOrder entries
  pub below : (d : Entry) (at : ℕ) → 0 < length entries → i ≤ at → at < length slots → (get_or entries (length entries - 1) d).slot ≤ get_or slots at 0

pub rises-none : (slots : List ℕ) → RisesTo slots 0 []
rises-none slots = record {
  rising = IsNonDecreasingBy-short (λ (entry : Entry). entry.slot) [] (omega arith);
  below = λ d at some from inside. absurd (omega (arith, some));
}

pub rises-same : (slots : List ℕ) (i : ℕ) (entries : List Entry) → RisesTo slots i entries → RisesTo slots (i + 1) entries
rises-same slots i entries r = record { rising = r.rising; below = λ d at some from inside. r.below d at some (omega arith) inside }

last-pushed : (entries : List Entry) (entry d : Entry) → get_or (entries ++ entry ∷ []) (length (entries ++ entry ∷ []) - 1) d ≡ entry
last-pushed entries entry d =
    let place : length (entries ++ entry ∷ []) - 1 ≡ length entries = omega (arith, length-append entries (entry ∷ [])) in
    let here : length entries - length entries ≡ 0 = omega arith in
    ap (λ (place : ℕ). get_or (entries ++ entry ∷ []) place d) place ∙ (get_or-append_right entries (entry ∷ []) (length entries) (length entries) d refl (omega arith) ∙ ap (λ (place : ℕ). get_or (entry ∷ []) place d) here)

pub rises-more : (slots : List ℕ) (i first : ℕ) (entries : List Entry) → i < length slots → IsNonDecreasing slots → RisesTo slots i entries → RisesTo slots (i + 1) (entries ++ record { slot = get_or slots i 0; first = first } ∷ [])
rises-more slots i first entries inside rising r = record {
  rising = IsNonDecreasingBy-push (λ (entry : Entry). entry.slot) entries entry r.rising (λ d some. r.below d i some (omega arith) inside);
  below = λ d at some from within. subst (λ (last : Entry). last.slot ≤ get_or slots at 0) (sym (last-pushed entries entry d)) (rising i at 0 (omega arith) within);
}
  where
    entry : Entry
    entry = record { slot = get_or slots i 0; first = first }
