-- Entries made those of a directory, one after another.
use Rattle.std.proofs.Common.{◌≡◌, ◌⊎◌, inl, inr, ℕ, ◌+◌, ◌*◌, ◌/◌, ◌%◌, ◌<◌, ◌≤◌, ◌≢◌, ◌==◌, false, List, [], ◌∷◌, ◌++◌, length, take, get_or, sym, refl, ap, ap₂, ◌∙◌, arith}
use Rattle.std.proofs.Math.ListN.{set}
use Rattle.std.proofs.lemmas.Bool.{cases_Bool, eqb-true, eqb-false}
use Rattle.std.proofs.lemmas.List.{ext_get_or, get_or-set_same, get_or-set_other, length-set, take_more}
use Rattle.eeprom.specs.Image.{overwrite}
use Rattle.eeprom.specs.StoreOf.{number_at, numbers_at, two_octets, with_entries}
use Rattle.eeprom.specs.declared.entry.Entry.{Entry}
use Rattle.eeprom.proofs.Places.{length-numbers_at, get_or-numbers_at}
use Rattle.eeprom.proofs.Regions.{get-before, get-behind}
use Rattle.journal.specs.Redo.{names}
use Rattle.journal.proofs.Outside.{alike-written, number-alike}

-- two directories that differ in the slots of these entries alone
pub record AgreeBut (entries : List Entry) (xs ys : List ℕ) : Type 0 where
  pub size : length xs ≡ length ys
  pub each : (slot : ℕ) → slot < length xs → names entries slot ≡ false → get_or xs slot 0 ≡ get_or ys slot 0

agree-rest : (entry : Entry) (entries : List Entry) (xs ys : List ℕ) → AgreeBut (entry ∷ entries) xs ys → AgreeBut entries (set xs entry.slot entry.first) (set ys entry.slot entry.first)
agree-rest entry entries xs ys agree =
    let size = length-set xs entry.slot entry.first in
    let size' = length-set ys entry.slot entry.first in
    record {
      size = size ∙ agree.size ∙ sym size';
      each = λ slot inside others. elim (cases_Bool (entry.slot == slot)) [
        | inl t ↦
            let is : entry.slot ≡ slot = eqb-true entry.slot slot t in
            let within : entry.slot < length xs = omega (arith, size) in
            let within' : entry.slot < length ys = omega (arith, agree.size) in
            ap (λ (k : ℕ). get_or (set xs entry.slot entry.first) k 0) (sym is) ∙ get_or-set_same xs entry.slot entry.first 0 within
            ∙ sym (get_or-set_same ys entry.slot entry.first 0 within') ∙ ap (λ (k : ℕ). get_or (set ys entry.slot entry.first) k 0) is
        | inr f ↦
            let other : slot ≢ entry.slot = λ is. eqb-false entry.slot slot f (sym is) in
            get_or-set_other xs entry.slot slot entry.first 0 other
            ∙ agree.each slot (omega (arith, size)) (rw (f, others) refl)
            ∙ sym (get_or-set_other ys entry.slot slot entry.first 0 other)
      ];
    }

-- with these entries they are one
pub with-agree : (entries : List Entry) (xs ys : List ℕ) → AgreeBut entries xs ys → with_entries entries xs ≡ with_entries entries ys
with-agree [] xs ys agree = ext_get_or 0 xs ys agree.size (λ slot inside. agree.each slot inside refl)
with-agree (entry ∷ entries) xs ys agree = with-agree entries (set xs entry.slot entry.first) (set ys entry.slot entry.first) (agree-rest entry entries xs ys agree)

with-append : (before behind : List Entry) (firsts : List ℕ) → with_entries (before ++ behind) firsts ≡ with_entries behind (with_entries before firsts)
with-append [] behind firsts = refl
with-append (entry ∷ before) behind firsts = with-append before behind (set firsts entry.slot entry.first)

-- with one entry more
pub with-more : (entries : List Entry) (i : ℕ) (d : Entry) (firsts : List ℕ) → i < length entries
    → with_entries (take (i + 1) entries) firsts ≡ set (with_entries (take i entries) firsts) (get_or entries i d).slot (get_or entries i d).first
with-more entries i d firsts inside =
    ap (λ (es : List Entry). with_entries es firsts) (take_more entries i d inside) ∙ with-append (take i entries) (get_or entries i d ∷ []) firsts

-- the number of a slot is written
pub number-set : (image : List ℕ) (n slot first place : ℕ) → slot < n → 32 + 2 * n ≤ length image → place ≡ 32 + 2 * slot
    → numbers_at (overwrite image place (two_octets first)) 32 n ≡ set (numbers_at image 32 n) slot first
number-set image n slot first place within room is =
    let left : List ℕ = overwrite image place (two_octets first) in
    let parts : 256 * (first / 256) + first % 256 ≡ first = omega arith in
    let fits : place + 2 ≤ length image = omega arith in
    ext_get_or 0 (numbers_at left 32 n) (set (numbers_at image 32 n) slot first)
    (length-numbers_at left 32 n ∙ sym (length-set (numbers_at image 32 n) slot first ∙ length-numbers_at image 32 n))
    (λ k below.
    let inside : k < n = omega (arith, length-numbers_at left 32 n) in
    let from : get_or (numbers_at left 32 n) k 0 ≡ number_at left (32 + 2 * k) = get_or-numbers_at left 32 n k 0 inside in
    elim (cases_Bool (k == slot)) [
      | inl t ↦
          let same : k ≡ slot = eqb-true k slot t in
          let at : 32 + 2 * k ≡ place + 0 = omega arith in
          let long : slot < length (numbers_at image 32 n) = omega (arith, length-numbers_at image 32 n) in
          from ∙ number-alike left (two_octets first) (32 + 2 * k) 0 (alike-written image (two_octets first) place (32 + 2 * k) 0 2 (omega arith) (omega arith) at) ∙ parts
          ∙ sym (ap (λ (k : ℕ). get_or (set (numbers_at image 32 n) slot first) k 0) same ∙ get_or-set_same (numbers_at image 32 n) slot first 0 long)
      | inr f ↦
          let other : k ≢ slot = eqb-false k slot f in
          from ∙ other-number image left k place (two_octets first) refl refl fits (apart k slot place other is) ∙ sym (get_or-numbers_at image 32 n k 0 inside)
          ∙ sym (get_or-set_other (numbers_at image 32 n) slot k first 0 other)
    ])
  where
    apart : (k slot place : ℕ) → k ≢ slot → place ≡ 32 + 2 * slot → (32 + 2 * k + 2 ≤ place) ⊎ (place + 2 ≤ 32 + 2 * k)
    apart k slot place other is = grind arith

    other-number : (image left : List ℕ) (k place : ℕ) (octets : List ℕ) → length octets ≡ 2 → left ≡ overwrite image place octets → place + 2 ≤ length image → (32 + 2 * k + 2 ≤ place) ⊎ (place + 2 ≤ 32 + 2 * k)
        → number_at left (32 + 2 * k) ≡ number_at image (32 + 2 * k)
    other-number image left k place octets two is fits (inl before) =
        ap (λ (xs : List ℕ). number_at xs (32 + 2 * k)) is
        ∙ ap₂ (λ (high low : ℕ). 256 * high + low) (get-before image place octets (32 + 2 * k) (omega arith) (omega arith)) (get-before image place octets (32 + 2 * k + 1) (omega arith) (omega arith))
    other-number image left k place octets two is fits (inr behind) =
        ap (λ (xs : List ℕ). number_at xs (32 + 2 * k)) is
        ∙ ap₂ (λ (high low : ℕ). 256 * high + low) (get-behind image place octets (32 + 2 * k) (omega arith) (omega arith)) (get-behind image place octets (32 + 2 * k + 1) (omega arith) (omega arith))
