-- The tags that are kept tell those of the image's records.
use Rattle.std.proofs.Common.{◌≡◌, ◌≢◌, ℕ, ◌<◌, ◌≤◌, ◌==◌, true, false, List, length, get_or, slice_index_or, Option, Some, None, option_and_then, sym, refl, ap, ◌∙◌, arith, inl, inr, eq-eqb}
use Rattle.std.proofs.lemmas.Bool.{eqb-true, true≢false}
use Rattle.std.proofs.lemmas.List.{get_or_default, get_or_past}
use Rattle.std.specs.Option.{option_map_or}
use Rattle.std.proofs.lemmas.Bool.Decides.{nat_tests}
use Rattle.std.proofs.lemmas.Option.{none-some}
use Rattle.eeprom.specs.StoreOf.{Slots}
use Rattle.record_store.specs.Held.{Held, StandsFor, contents, firsts, record_at, tags_of}
use Rattle.record_store.specs.Sound.{IsSound}
use Rattle.record_store.specs.Tags.{AreMade, AreTags}
use Rattle.record_store.specs.declared.side.Side.{Side}
use Rattle.record_store.specs.declared.side.Side.TheVariants.{Committed, Working}
use Rattle.record_store.proofs.FirstOctets.{slots-count, slot-past}
use Rattle.record_store.proofs.Records.{contents-there}
use Rattle.record_store.proofs.Sides.{count-firsts, inside-or-past}
use Rattle.record_store.proofs.Weights.{some-slots}

pub tags-told : (held : Held) (side : Side) (image : List ℕ) → StandsFor held image → AreTags (tags_of held side) (contents held side image)
tags-told held side image stands = elim side as (λ side. AreTags (tags_of held side) (contents held side image)) [ Committed ↦ stands.committed_tags | Working ↦ stands.working_tags ]

-- behind the last slot there is no record
pub none-past : (held : Held) (side : Side) (image : List ℕ) (slot : ℕ) → IsSound held → StandsFor held image → held.chains.cells ≤ slot → record_at held side slot image ≡ None
none-past held side image slot sound stands past =
    let there = some-slots (contents held side image) (contents-there held side image stands) in
    ap (λ (o : Option Slots). option_and_then (λ slots. slice_index_or slots slot None) o) there.1
    ∙ slot-past there.0 slot (omega (arith, past, side-count side, slots-count image held.chains.cells (firsts held side) there.0 there.1))
  where
    side-count : (side : Side) → length (firsts held side) ≡ held.chains.cells
    side-count Committed = sound.committed_count
    side-count Working = count-firsts held sound

module _ (tag_of : List ℕ → ℕ) (tags : List ℕ) (held : Held) (side : Side) (image : List ℕ) (are : AreMade tag_of tags (contents held side image)) where
  -- a slot for which another tag is kept
  pub tag-other : (slot tag : ℕ) → (get_or tags slot tag == tag) ≡ false → option_map_or (λ octets. tag_of octets == tag) (record_at held side slot image) false ≡ false
  tag-other slot tag other = by_entry (record_at held side slot image) refl
    where
      kept : get_or tags slot 0 ≢ tag
      kept same = elim (inside-or-past slot (length tags)) [
        | inl inside ↦ absurd (true≢false (sym (eq-eqb (get_or tags slot tag) tag (get_or_default tags slot tag 0 inside ∙ same)) ∙ other))
        | inr past ↦ absurd (true≢false (sym (eq-eqb (get_or tags slot tag) tag (get_or_past tags slot tag past)) ∙ other))
      ]

      by_entry : (entry : Option (List ℕ)) → record_at held side slot image ≡ entry → option_map_or (λ octets. tag_of octets == tag) entry false ≡ false
      by_entry None is = refl
      by_entry (Some octets) is = (let same = are slot octets is in grind (arith, nat_tests, same, kept))

  -- a slot for which this tag is kept, or one behind the last
  pub tag-here : (slot tag : ℕ) (octets : List ℕ) → (length tags ≤ slot → record_at held side slot image ≡ None) → (slot < length tags → (get_or tags slot tag == tag) ≡ true) → record_at held side slot image ≡ Some octets → (tag_of octets == tag) ≡ true
  tag-here slot tag octets none here is = elim (inside-or-past slot (length tags)) [
    | inl inside ↦ eq-eqb (tag_of octets) tag (sym (are slot octets is) ∙ (get_or_default tags slot 0 tag inside ∙ eqb-true (get_or tags slot tag) tag (here inside)))
    | inr past ↦ absurd (none-some octets (sym (none past) ∙ is))
  ]
