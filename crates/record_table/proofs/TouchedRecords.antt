-- What a transaction has touched: nothing where it begins, then the records of each command's edits, and never fewer than a commit has entries.
use Rattle.std.proofs.Common.{◌≡◌, ◌⊎◌, ℕ, ◌<◌, ◌≤◌, ◌&&◌, ◌||◌, Bool, true, List, [], length, ltb, slice_index, Option, Some, None, get_or, inl, inr, refl, sym, ap, subst, ◌∙◌, arith}
use Rattle.std.specs.Prelude.{IfSome}
use Rattle.std.proofs.lemmas.Bool.{cases_Bool, ltb-false, ltb-true, or_left, or_right}
use Rattle.std.proofs.lemmas.List.{get_or_past}
use Rattle.std.proofs.lemmas.Option.{none-some, same_Some}
use Rattle.cell_store.specs.Chains.{is_among}
use Rattle.eeprom.specs.Chip.{Chip}
use Rattle.eeprom.specs.Slots.{in_slot}
use Rattle.eeprom.specs.StoreOf.{Slots}
use Rattle.record_store.specs.Held.{AreKept, Held, IsOver, StandsFor, contents, firsts}
use Rattle.record_store.specs.Transaction.{begun_from, entries}
use Rattle.record_store.specs.declared.side.Side.TheVariants.{Committed, Working}
use Rattle.record_store.proofs.CountedSlots.{HasOther, changed-few}
use Rattle.record_store.proofs.FirstOctets.{slots-count}
use Rattle.record_store.proofs.Records.{nowhere-empty, same-record}
use Rattle.scql_model.specs.Database.{Database, IsValid}
use Rattle.scql_model.specs.Edits.{Edit, has_record, touched, touched_after}
use Rattle.scql_model.specs.Opens.{Holds}
use Rattle.scql_model.proofs.Touching.{touched_after-in}
use Rattle.record_table.specs.Listed.{slots_of}
use Rattle.record_table.specs.Touching.{IsTouched, Stands, Touches, stamp_at, stamp_in}
use Rattle.record_table.proofs.StampsInSlots.{stands-below, stands-has, stands-once, stands-some}
use Rattle.record_table.proofs.Steps.{told-image}

-- Where a transaction begins it has touched nothing.
pub IsTouched-begun : (slots : Slots) (db : Database) (held : Held) → Holds slots db → IsValid db → IsTouched [] slots slots (begun_from held)
IsTouched-begun slots db held holds valid = record { covers = λ slot. inl refl; places = λ i j stamp first second. stands-once i j stamp slots db holds valid first second }

-- a slot in which a record stands is one of the slots
stands-within : (stamp slot : ℕ) (slots : Slots) → Stands stamp slot slots → slot < length slots
stands-within stamp slot slots stands =
    elim (cases_Bool (ltb slot (length slots))) [
      | inl t ↦ ltb-true slot (length slots) t
      | inr f ↦ absurd (none-some stamp (ap (in_slot stamp_in) (sym (get_or_past slots slot None (ltb-false slot (length slots) f))) ∙ stands))
    ]

-- where a slot has no other chain, its record is on both sides
stands-same : (stamp slot : ℕ) (committed working : Slots) (held : Held) (chip : Chip) → slots_of held Committed chip ≡ Some committed → slots_of held Working chip ≡ Some working → length committed ≡ length working
    → slice_index (firsts held Working) slot ≡ slice_index held.committed slot → Stands stamp slot committed → Stands stamp slot working
stands-same stamp slot committed working held chip told_1 told_2 sizes same stands =
    let first = told-image held Committed chip committed told_1 in
    let last = told-image held Working chip working told_2 in
    let image = same_Some first.0 last.0 (sym first.1 ∙ last.1) in
    let here = ap (contents held Working) image ∙ last.2 in
    let within = stands-within stamp slot committed stands in
    let size_1 = slots-count first.0 held.chains.cells held.committed committed first.2 in
    let size_2 = slots-count first.0 held.chains.cells (firsts held Working) working here in
    let record_is = same-record first.0 held.chains.cells held.committed (firsts held Working) committed working slot first.2 here (omega (arith, within, size_1)) (omega (arith, within, size_2, sizes)) same in
    ap (in_slot stamp_in) record_is ∙ stands

-- what is among the records after a command
after-in : (committed working : Database) (before : List ℕ) (edits : List Edit) (stamp : ℕ) → (has_record committed stamp ≡ true) ⊎ (has_record working stamp ≡ true)
    → (is_among stamp before ≡ true) ⊎ (is_among stamp (touched edits) ≡ true) → is_among stamp (touched_after committed working before edits) ≡ true
after-in committed working before edits stamp there named =
    touched_after-in committed working before edits stamp ∙ both (has_record committed stamp) (has_record working stamp) (is_among stamp before) (is_among stamp (touched edits)) there named
  where
    either : (a b : Bool) → (a ≡ true) ⊎ (b ≡ true) → (a || b) ≡ true
    either a b (inl t) = or_left a b t
    either a b (inr t) = or_right a b t

    both : (a b c d : Bool) → (a ≡ true) ⊎ (b ≡ true) → (c ≡ true) ⊎ (d ≡ true) → ((a || b) && (c || d)) ≡ true
    both a b c d first second = rw (either a b first, either c d second) refl

-- A command's edits add to what is touched.
pub IsTouched-after : (cdb db ndb : Database) (before : List ℕ) (edits : List Edit) (committed working now : Slots) (old new : Held) (chip : Chip) → slots_of old Committed chip ≡ Some committed
    → slots_of old Working chip ≡ Some working → Holds committed cdb → IsValid cdb → Holds working db → Holds now ndb → cdb.cells ≡ db.cells → cdb.next ≤ db.next → IsTouched before committed working old
    → Touches (touched edits) db.next working now old new → IsTouched (touched_after cdb ndb before edits) committed now new
IsTouched-after cdb db ndb before edits committed working now old new chip told_1 told_2 base valid holds then cells later was touches =
    let sizes : length committed ≡ length working = base.cells ∙ cells ∙ sym holds.cells in
    let after = λ (stamp : ℕ). after-in cdb ndb before edits stamp in
    let on_committed : (stamp slot : ℕ) → Stands stamp slot committed → (has_record cdb stamp ≡ true) ⊎ (has_record ndb stamp ≡ true) = λ stamp slot stands. inl (stands-has stamp slot committed cdb base stands) in
    let on_working : (stamp slot : ℕ) → Stands stamp slot now → (has_record cdb stamp ≡ true) ⊎ (has_record ndb stamp ≡ true) = λ stamp slot stands. inr (stands-has stamp slot now ndb then stands) in
    record {
      covers = λ slot. elim (touches.others slot) [
        | inl kept ↦ elim (was.covers slot) [
          | inl same ↦ inl (kept.0 ∙ (same ∙ ap (λ (firsts : List ℕ). slice_index firsts slot) (sym touches.committed)))
          | inr names ↦ inr (λ stamp stands. elim stands [
            | inl first ↦ after stamp (on_committed stamp slot first) (inl (names stamp (inl first)))
            | inr last ↦ after stamp (on_working stamp slot last) (inl (names stamp (inr (ap (in_slot stamp_in) (sym kept.1) ∙ last))))
          ])
        ]
        | inr changed ↦ inr (λ stamp stands. elim stands [
          | inl first ↦ after stamp (on_committed stamp slot first) (elim (was.covers slot) [
            | inl same ↦ inr (changed stamp (inl (stands-same stamp slot committed working old chip told_1 told_2 sizes same first)))
            | inr names ↦ inl (names stamp (inl first))
          ])
          | inr last ↦ after stamp (on_working stamp slot last) (inr (changed stamp (inr last)))
        ])
      ];
      places = λ i j stamp first last. elim (touches.places j stamp last) [
        | inl there ↦ was.places i j stamp first there
        | inr new ↦ absurd (omega (arith, new, later, stands-below stamp i committed cdb base valid first))
      ];
    }

-- the name of a slot: the stamp of its record, on the working side or else on the committed one
name_of : Option ℕ → Option ℕ → ℕ
name_of (Some stamp) other = stamp
name_of None (Some stamp) = stamp
name_of None None = 0

abbrev slot_name : Slots → Slots → ℕ → ℕ
slot_name committed working slot = name_of (stamp_at slot working) (stamp_at slot committed)

-- A commit has at most as many entries as records are touched.
module _ (cdb db : Database) (names : List ℕ) (committed working : Slots) (held : Held) (image : List ℕ) (told_1 : contents held Committed image ≡ Some committed) (told_2 : contents held Working image ≡ Some working)
    (stands : StandsFor held image) (base : Holds committed cdb) (base_valid : IsValid cdb) (holds : Holds working db) (valid : IsValid db) (was : IsTouched names committed working held) where
  -- a slot with another chain has a record, on the one side or the other
  named-slot : (slot : ℕ) → HasOther held.committed (firsts held Working) slot → Stands (slot_name committed working slot) slot committed ⊎ Stands (slot_name committed working slot) slot working
  unfolding name_of
  named-slot slot h = go (get_or working slot None) refl (get_or committed slot None) refl
    where
      go : (w : Option (List ℕ)) → get_or working slot None ≡ w → (c : Option (List ℕ)) → get_or committed slot None ≡ c
          → Stands (slot_name committed working slot) slot committed ⊎ Stands (slot_name committed working slot) slot working
      go (Some octets) is c also = let stamp = stands-some slot octets working db holds is in inr (rw stamp.1 refl)
      go None is (Some octets) also = let stamp = stands-some slot octets committed cdb base also in inl (rw (stamp.1, is) refl)
      go None is None also =
          let none_1 = nowhere-empty held.first_octets held.committed committed slot (subst (AreKept held.first_octets held.committed) told_1 stands.committed_octets) h.within also in
          let none_2 = nowhere-empty held.first_octets (firsts held Working) working slot (subst (AreKept held.first_octets (firsts held Working)) told_2 stands.working_octets) h.there is in
          absurd (h.other (none_2 ∙ sym none_1))

  -- and one slot has it
  named-once : (i j : ℕ) → HasOther held.committed (firsts held Working) i → HasOther held.committed (firsts held Working) j → slot_name committed working i ≡ slot_name committed working j → i ≡ j
  named-once i j h k same = elim (named-slot i h) [
    | inl first ↦ elim (named-slot j k) [
      | inl second ↦ stands-once i j _ committed cdb base base_valid first (subst (λ n. Stands n j committed) (sym same) second)
      | inr second ↦ was.places i j _ first (subst (λ n. Stands n j working) (sym same) second)
    ]
    | inr first ↦ elim (named-slot j k) [
      | inl second ↦ sym (was.places j i _ (subst (λ n. Stands n j committed) (sym same) second) first)
      | inr second ↦ stands-once i j _ working db holds valid first (subst (λ n. Stands n j working) (sym same) second)
    ]
  ]

  named-among : (slot : ℕ) → HasOther held.committed (firsts held Working) slot → is_among (slot_name committed working slot) names ≡ true
  named-among slot h = elim (was.covers slot) [
    | inl same ↦ absurd (h.other same)
    | inr all ↦ all (slot_name committed working slot) (named-slot slot h)
  ]

  few-entries : entries held ≤ length names
  few-entries = changed-few held.committed (firsts held Working) (slot_name committed working) names named-among named-once

pub entries-touched : (cdb db : Database) (names : List ℕ) (committed working : Slots) (held : Held) (chip : Chip) → IsOver held chip → slots_of held Committed chip ≡ Some committed → slots_of held Working chip ≡ Some working
    → Holds committed cdb → IsValid cdb → Holds working db → IsValid db → IsTouched names committed working held → entries held ≤ length names
entries-touched cdb db names committed working held chip over told_1 told_2 base base_valid holds valid was =
    let first = told-image held Committed chip committed told_1 in
    let last = told-image held Working chip working told_2 in
    let here = ap (contents held Working) (same_Some first.0 last.0 (sym first.1 ∙ last.1)) ∙ last.2 in
    let stands = subst (λ (o : Option (List ℕ)). IfSome o (StandsFor held)) first.1 over.stands in
    few-entries cdb db names committed working held first.0 first.2 here stands base base_valid holds valid was
