-- The tags of records by slot, as slots are emptied and filled.
use Rattle.std.proofs.Common.{◌≡◌, ◌≢◌, inl, inr, ℕ, ◌<◌, List, [], ◌∷◌, ◌++◌, length, set, get_or, Option, Some, None, sym, ap, ◌∙◌, arith, subst, length-append}
use Rattle.std.proofs.lemmas.List.{get_or-set_same, get_or-set_other, get_or_append_left, get_or_past, length-set}
use Rattle.std.proofs.Math.Seq.{get_or-append_seam}
use Rattle.std.proofs.lemmas.Option.{same_Some, none-some}
use Rattle.eeprom.specs.StoreOf.{Slots}
use Rattle.record_store.specs.Opening.{slot_with}
use Rattle.record_store.specs.Tags.{Tags, SideTags, AreMade, AreTags, HasTags, tag_of, stamp_of, with_tags}
use Rattle.record_store.proofs.Sides.{same-or-other, inside-or-past}

-- a record's tags are kept for its slot on the working side
pub record PutsTag (was : Tags) (slot : ℕ) (octets : List ℕ) (now : Tags) : Type 0 where
  pub names : slot < length was.working.names
  pub stamps : slot < length was.working.stamps
  pub is : now ≡ record was { working = with_tags was.working slot octets }

-- the same tags for the same slots
pub tags-same : (tags : SideTags) (old new : Option Slots) → new ≡ old → AreTags tags old → AreTags tags new
tags-same tags old new same are = subst (AreTags tags) (sym same) are

pub has-with : (cells : ℕ) (tags : SideTags) (slot : ℕ) (octets : List ℕ) → HasTags cells tags → HasTags cells (with_tags tags slot octets)
has-with cells tags slot octets has = record { names = length-set tags.names slot (tag_of octets) ∙ has.names; stamps = length-set tags.stamps slot (stamp_of octets) ∙ has.stamps }

module _ (tag : List ℕ → ℕ) where
  made-emptied : (tags : List ℕ) (slots : Slots) (slot : ℕ) → slot < length slots → AreMade tag tags (Some slots) → AreMade tag tags (Some (set slots slot None))
  made-emptied tags slots slot here are = λ at octets there. elim (same-or-other at slot) [
    | inl same ↦ absurd (none-some octets (sym (get_or-set_same slots slot None None here) ∙ rw same at there))
    | inr other ↦ are at octets (sym (get_or-set_other slots slot at None None other) ∙ there)
  ]

  made-put : (tags : List ℕ) (slots : Slots) (slot : ℕ) (entry : List ℕ) → slot < length tags → slot < length slots → AreMade tag tags (Some slots) → AreMade tag (set tags slot (tag entry)) (Some (set slots slot (Some entry)))
  made-put tags slots slot entry room here are = λ at octets there. elim (same-or-other at slot) [
    | inl same ↦ (let is : entry ≡ octets = same_Some _ _ (sym (get_or-set_same slots slot (Some entry) None here) ∙ rw same at there) in
        rw same (get_or-set_same tags slot (tag entry) 0 room ∙ ap tag is))
    | inr other ↦ get_or-set_other tags slot at (tag entry) 0 other ∙ are at octets (sym (get_or-set_other slots slot at (Some entry) None other) ∙ there)
  ]

  made-more : (tags : List ℕ) (slots : Slots) (count : ℕ) (entry : List ℕ) → length slots ≡ count → count < length tags → AreMade tag tags (Some slots) → AreMade tag (set tags count (tag entry)) (Some (slots ++ slot_with entry ∷ []))
  made-more tags slots count entry size room are = λ at octets there. elim (same-or-other at count) [
    | inl same ↦ (let here : slot_with entry ≡ Some octets = sym (get_or-append_seam slots (slot_with entry) [] None) ∙ (ap (λ (at : ℕ). get_or (slots ++ slot_with entry ∷ []) at None) (size ∙ sym same) ∙ there) in
        rw same (get_or-set_same tags count (tag entry) 0 room ∙ ap tag (last entry octets here)))
    | inr other ↦ get_or-set_other tags count at (tag entry) 0 other ∙ are at octets (before at octets other there)
  ]
    where
      last : (entry octets : List ℕ) → slot_with entry ≡ Some octets → entry ≡ octets
      last [] octets is = absurd (none-some octets is)
      last (octet ∷ entry) octets is = same_Some _ _ is

      before : (at : ℕ) (octets : List ℕ) → at ≢ count → get_or (slots ++ slot_with entry ∷ []) at None ≡ Some octets → get_or slots at None ≡ Some octets
      before at octets other there = elim (inside-or-past at (length slots)) [
        | inl small ↦ sym (get_or_append_left slots (slot_with entry ∷ []) None at small) ∙ there
        | inr past ↦ absurd (none-some octets (sym (get_or_past (slots ++ slot_with entry ∷ []) at None (omega (arith, past, other, size, length-append slots (slot_with entry ∷ [])))) ∙ there))
      ]

-- a slot is emptied
pub tags-emptied : (tags : SideTags) (slots : Slots) (slot : ℕ) → slot < length slots → AreTags tags (Some slots) → AreTags tags (Some (set slots slot None))
tags-emptied tags slots slot here are = record { names = made-emptied tag_of tags.names slots slot here are.names; stamps = made-emptied stamp_of tags.stamps slots slot here are.stamps }

-- a record is put into a slot, and its tags are kept
pub tags-put : (tags : SideTags) (slots : Slots) (slot : ℕ) (entry : List ℕ) → slot < length tags.names → slot < length tags.stamps → slot < length slots → AreTags tags (Some slots) → AreTags (with_tags tags slot entry) (Some (set slots slot (Some entry)))
tags-put tags slots slot entry names stamps here are = record { names = made-put tag_of tags.names slots slot entry names here are.names; stamps = made-put stamp_of tags.stamps slots slot entry stamps here are.stamps }

-- one slot more, with its record or empty
pub tags-more : (tags : SideTags) (slots : Slots) (count : ℕ) (entry : List ℕ) → length slots ≡ count → count < length tags.names → count < length tags.stamps → AreTags tags (Some slots) → AreTags (with_tags tags count entry) (Some (slots ++ slot_with entry ∷ []))
tags-more tags slots count entry size names stamps are = record { names = made-more tag_of tags.names slots count entry size names are.names; stamps = made-more stamp_of tags.stamps slots count entry size stamps are.stamps }
