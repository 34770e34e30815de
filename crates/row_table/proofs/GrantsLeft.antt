-- A record goes with the grants that pass a test: what a store has then, and that every row is in its slot still.
use Rattle.std.proofs.Common.{◌≡◌, ℕ, ◌+◌, ◌≤◌, ◌==◌, ◌||◌, Bool, true, false, not, if◌then◌else◌, get_or, List, [], ◌∷◌, length, map, count_by, Option, None, Some, Result, Ok, refl, sym, ap, subst, ◌∙◌, inl, inr, arith}
use Rattle.std.specs.Prelude.{IfSome}
use Rattle.std.specs.List.{filter, sum_by}
use Rattle.std.proofs.Math.ListN.{get_or-map, set}
use Rattle.std.proofs.lemmas.Bool.{cases_Bool, eq-eqb, eqb-false, eqb-true, false≢true}
use Rattle.std.proofs.lemmas.List.{get_or-set_other, length-map}
use Rattle.eeprom.specs.Chip.{Chip}
use Rattle.eeprom.specs.Slots.{Rises}
use Rattle.eeprom.specs.StoreOf.{Slots, cells_of}
use Rattle.record_store.specs.Held.{Held, StandsFor}
use Rattle.record_store.specs.Transaction.{ChangesOnly, ChangesWhere, entries}
use Rattle.record_store.proofs.ChangedSlots.{ChangesWhere-more, ChangesWhere-then}
use Rattle.record_store.specs.declared.side.Side.TheVariants.{Committed, Working}
use Rattle.scql_base.specs.declared.records.Grant.{Grant}
use Rattle.scql_base.specs.declared.words.StatusWord.{StatusWord}
use Rattle.scql_model.specs.Database.{Database, IsValid}
use Rattle.scql_model.specs.Edits.{Edit, applied, edited, removing, to_remove, touched}
use Rattle.scql_model.specs.Opens.{Holds}
use Rattle.scql_model.specs.Records.{AnyRecord, of_grant, record_stamp}
use Rattle.scql_model.proofs.Keeping.{Keeps}
use Rattle.scql_model.proofs.Removing.{grants-take_none}
use Rattle.scql_model.proofs.RightEdits.{Yields}
use Rattle.catalog_codec.specs.Catalog.{grant_kind, row_kind}
use Rattle.catalog_codec.specs.CatalogLaws.{IsKind-grant, IsKind-row, HaveOtherMarks-row-grant}
use Rattle.catalog_codec.specs.KindLaws.{HaveOtherMarks-sym}
use Rattle.catalog_codec.specs.Kinds.{HaveOtherMarks, IsKind, Kind}
use Rattle.record_table.specs.Editable.{IsEditable}
use Rattle.record_table.specs.EditableLaws.{IsEditable-grant}
use Rattle.record_table.specs.Listed.{at_slot, slots_of}
use Rattle.record_table.specs.Making.{IsHeld, KeepsRows, Makes}
use Rattle.record_table.specs.Swept.{has_passing, without_passing}
use Rattle.record_table.specs.Touching.{Stands, Touches}
use Rattle.record_table.proofs.ChangedDatabase.{Holds-removed}
use Rattle.record_table.proofs.LeftRecords.{Holds-without_grants, at_slot-without, count-passing}
use Rattle.record_table.proofs.ListedChanges.{at_slot-kept, is_of-read}
use Rattle.record_table.proofs.MadeLeft.{KeepsRows-left, Makes-left, less-emptied, less-without, of-told}
use Rattle.record_table.proofs.TouchedEdits.{among-first, among-swept, among-then}
use Rattle.record_table.proofs.TouchedSlots.{Touches-emptied, at-stands, swept-stands}
use Rattle.row_table.specs.WithGrants.{goes_with_grants, left_with_grants, most_with_grants}
use Rattle.row_table.proofs.RowsLeft.{set-none}

-- the edits that take a record of a kind out, and the grants that pass
abbrev pub removing_with_grants : {X : Type 0} → (X → AnyRecord) → (Grant → Bool) → X → Database → List Edit
removing_with_grants {X} any p x db = removing (any x) ∷ map (λ (g : Grant). removing (of_grant g)) (filter p db.grants)

-- so many records they touch
count-touched : {X : Type 0} (any : X → AnyRecord) (p : Grant → Bool) (x : X) (db : Database) → length (touched (removing_with_grants any p x db)) ≡ 1 + length (filter p db.grants)
count-touched any p x db =
    length-map (removing_with_grants any p x db) (λ (e : Edit). record_stamp e.entry) ∙ omega (arith, length-map (filter p db.grants) (λ (g : Grant). removing (of_grant g)))

-- no more cells are taken than before
pub less-with_grants : (p : Grant → Bool) (slot : ℕ) (slots : Slots) → sum_by cells_of (left_with_grants slot p slots) ≤ sum_by cells_of slots
less-with_grants p slot slots = omega (arith, less-without grant_kind p (set slots slot None), less-emptied slots slot)

-- The record's slot is emptied, and then those of the grants: so many entries these are at most,
pub entries-with_grants : (p : Grant → Bool) (old first new : Held) (chip : Chip) (slot : ℕ) → IfSome (slots_of old Working chip) (λ slots. slots_of first Working chip ≡ Some (set slots slot None))
    → entries first ≤ entries old + 1 → IfSome (slots_of first Working chip) (λ slots. entries new ≤ entries first + count_by (has_passing grant_kind p) slots)
    → IfSome (slots_of old Working chip) (λ slots. entries new ≤ entries old + most_with_grants slot p slots)
entries-with_grants p old first new chip slot one few_1 few_2 = go (slots_of old Working chip) one
  where
    go : (o : Option Slots) → IfSome o (λ slots. slots_of first Working chip ≡ Some (set slots slot None)) → IfSome o (λ slots. entries new ≤ entries old + most_with_grants slot p slots)
    go None one = tt
    go (Some slots) one =
        let more = subst (λ (o : Option Slots). IfSome o (λ slots. entries new ≤ entries first + count_by (has_passing grant_kind p) slots)) one few_2 in
        omega (arith, few_1, more)

-- and no other slot has another chain.
pub only-with_grants : (p : Grant → Bool) (old first new : Held) (chip : Chip) (slot : ℕ) → IfSome (slots_of old Working chip) (λ slots. slots_of first Working chip ≡ Some (set slots slot None)) → ChangesOnly slot old first
    → IfSome (slots_of first Working chip) (λ slots. ChangesWhere (λ s. has_passing grant_kind p (get_or slots s None)) first new)
    → IfSome (slots_of old Working chip) (λ slots. ChangesWhere (goes_with_grants slot p slots) old new)
only-with_grants p old first new chip slot one only swept = go (slots_of old Working chip) one
  where
    go : (o : Option Slots) → IfSome o (λ slots. slots_of first Working chip ≡ Some (set slots slot None)) → IfSome o (λ slots. ChangesWhere (goes_with_grants slot p slots) old new)
    go None one = tt
    go (Some slots) one =
        let left = set slots slot None in
        let more = subst (λ (o : Option Slots). IfSome o (λ slots. ChangesWhere (λ s. has_passing grant_kind p (get_or slots s None)) first new)) one swept in
        ChangesWhere-more (λ s. s == slot || has_passing grant_kind p (get_or left s None)) (goes_with_grants slot p slots) old new
        (λ s (neither : goes_with_grants slot p slots s ≡ false). elim (cases_Bool (s == slot)) [
          | inl t ↦ absurd (false≢true (sym neither ∙ rw t refl))
          | inr f ↦ (let still : get_or left s None ≡ get_or slots s None = get_or-set_other slots slot s None None (eqb-false s slot f) in rw still neither)
        ])
        (ChangesWhere-then (λ s. s == slot) (λ s. has_passing grant_kind p (get_or left s None)) old first new only more)

-- of the slots those that go are empty then
left-slot : (p : Grant → Bool) (slot : ℕ) (slots : Slots) (s : ℕ) → get_or (left_with_grants slot p slots) s None ≡ (if goes_with_grants slot p slots s then None else get_or slots s None)
left-slot p slot slots s = get_or-map (without_passing grant_kind p) (set slots slot None) s None ∙ elim (cases_Bool (s == slot)) [
  | inl t ↦ (let none : get_or (set slots slot None) s None ≡ None = subst (λ n. get_or (set slots slot None) n None ≡ None) (sym (eqb-true s slot t)) (set-none slots slot) in rw (t, none) refl)
  | inr f ↦ (let still : get_or (set slots slot None) s None ≡ get_or slots s None = get_or-set_other slots slot s None None (eqb-false s slot f) in rw (f, still) refl)
]

module _ {X : Type 0} (kind : Kind X) (any : X → AnyRecord) (is_kind : IsKind kind) (editable : IsEditable kind any) (p : Grant → Bool) (x : X) (slot : ℕ) (slots : Slots) (db : Database) (holds : Holds slots db) (valid : IsValid db)
    (at : at_slot kind slot slots ≡ Some x) (kept : (edited to_remove (any x) db).grants ≡ db.grants) where
  Holds-record : Holds (set slots slot None) (edited to_remove (any x) db)
  Holds-record = Holds-removed kind any is_kind editable x slot slots (set slots slot None) db holds (editable.rises db valid) at refl

  pub Holds-with_grants : Holds (left_with_grants slot p slots) (record (edited to_remove (any x) db) { grants = filter (λ (g : Grant). not (p g)) db.grants })
  Holds-with_grants =
      subst (λ (grants : List Grant). Holds (left_with_grants slot p slots) (record (edited to_remove (any x) db) { grants = filter (λ (g : Grant). not (p g)) grants })) kept
      (Holds-without_grants p (set slots slot None) (edited to_remove (any x) db) Holds-record (subst (Rises grant_kind.key) (sym kept) valid.grants.rises))

  -- so many grants go
  pub count-with_grants : count_by (has_passing grant_kind p) (set slots slot None) ≡ length (filter p db.grants)
  count-with_grants = count-passing grant_kind p (set slots slot None) ∙ ap (λ (grants : List Grant). length (filter p grants)) (Holds-record.grants ∙ kept)

  -- and these and the record are touched
  pub Touches-with_grants : (old new : Held) → ChangesWhere (goes_with_grants slot p slots) old new → Touches (touched (removing_with_grants any p x db)) db.next slots (left_with_grants slot p slots) old new
  Touches-with_grants old new changes =
      let grants = map (λ (g : Grant). removing (of_grant g)) (filter p db.grants) in
      Touches-emptied (goes_with_grants slot p slots) (touched (removing_with_grants any p x db)) db.next slots (left_with_grants slot p slots) old new changes (left-slot p slot slots)
      (λ s stamp (may : goes_with_grants slot p slots s ≡ true) stands. elim (cases_Bool (s == slot)) [
        | inl t ↦ (let there = at-stands kind kind.key editable.named slot stamp slots x at (subst (λ n. Stands stamp n slots) (eqb-true s slot t) stands) in
            among-first (removing (any x) ∷ []) grants stamp (rw (editable.stamps x, eq-eqb stamp (kind.key x) (sym there)) refl))
        | inr f ↦ among-then (removing (any x) ∷ []) grants stamp (swept-stands grant_kind grant_kind.key IsEditable-grant.named p s stamp (touched grants) slots
            (λ g here passes. among-swept grant_kind of_grant IsEditable-grant p slots s g db.grants holds.grants valid.grants.rises here passes) (rw f at may) stands)
      ])

-- All rows stay in their slots.
pub KeepsRows-with_grants : {X : Type 0} (kind : Kind X) (p : Grant → Bool) (slot : ℕ) (old new : Held) (chip : Chip) → IsKind kind → HaveOtherMarks kind row_kind → IfSome chip.image (StandsFor old)
    → IfSome (slots_of old Working chip) (λ slots. (x : X) × (at_slot kind slot slots ≡ Some x)) → IfSome (slots_of old Working chip) (λ slots. slots_of new Working chip ≡ Some (left_with_grants slot p slots))
    → KeepsRows (slots_of old Working chip) (slots_of new Working chip)
KeepsRows-with_grants {X} kind p slot old new chip is apart stands there left = KeepsRows-left old new chip chip stands refl (go (slots_of old Working chip) there left)
  where
    go : (o : Option Slots) → IfSome o (λ slots. (x : X) × (at_slot kind slot slots ≡ Some x)) → IfSome o (λ slots. slots_of new Working chip ≡ Some (left_with_grants slot p slots))
        → IfSome o (λ slots. (left : Slots) × (slots_of new Working chip ≡ Some left) × ((place : ℕ) → at_slot row_kind place left ≡ at_slot row_kind place slots))
    go None there left = tt
    go (Some slots) there left = (
      left_with_grants slot p slots,
      left,
      λ place.
          at_slot-without grant_kind p row_kind IsKind-grant IsKind-row (HaveOtherMarks-sym row_kind grant_kind HaveOtherMarks-row-grant) (set slots slot None) place
          ∙ at_slot-kept kind row_kind slots slot None place IsKind-row apart (is_of-read kind (get_or slots slot None) there.0 is there.1) refl,
    )

-- A store from which they are gone has made these edits.
pub Makes-with_grants : {X : Type 0} (kind : Kind X) (any : X → AnyRecord) (p : Grant → Bool) (x : X) (slot : ℕ) (db : Database) (outcome : Result (List Edit) StatusWord) (old new : Held) (chip : Chip) (held : IsHeld old Working chip db)
    → IsKind kind → IsEditable kind any → at_slot kind slot held.slots ≡ Some x → (edited to_remove (any x) db).grants ≡ db.grants
    → applied db (removing_with_grants any p x db) ≡ record (edited to_remove (any x) db) { grants = filter (λ (g : Grant). not (p g)) db.grants }
    → Yields (Keeps db) outcome → outcome ≡ Ok (removing_with_grants any p x db)
    → IfSome (slots_of old Working chip) (λ slots. slots_of new Working chip ≡ Some (left_with_grants slot p slots))
    → new.chains.cells ≡ old.chains.cells → new.row_limit ≡ old.row_limit → slots_of new Committed chip ≡ slots_of old Committed chip
    → IfSome (slots_of old Working chip) (λ slots. entries new ≤ entries old + most_with_grants slot p slots)
    → IfSome (slots_of old Working chip) (λ slots. ChangesWhere (goes_with_grants slot p slots) old new)
    → Makes db (removing_with_grants any p x db) old new chip chip
Makes-with_grants kind any p x slot db outcome old new chip held is_kind editable at kept made keeps is left cells limit committed few only =
    let slots = held.slots in
    let grants = of-told old chip slots (λ slots. entries new ≤ entries old + most_with_grants slot p slots) held.told few in
    Makes-left db (removing_with_grants any p x db) outcome (left_with_grants slot p slots) old new chip held keeps is
    (subst (Holds (left_with_grants slot p slots)) (sym made) (Holds-with_grants kind any is_kind editable p x slot slots db held.holds held.valid at kept))
    (rw (editable.no_counter x) (grants-take_none (filter p db.grants))) (less-with_grants p slot slots)
    (of-told old chip slots (λ slots. slots_of new Working chip ≡ Some (left_with_grants slot p slots)) held.told left) cells limit committed
    (omega (arith, grants, count-with_grants kind any is_kind editable p x slot slots db held.holds held.valid at kept, count-touched any p x db))
    (Touches-with_grants kind any is_kind editable p x slot slots db held.holds held.valid at kept old new
    (of-told old chip slots (λ slots. ChangesWhere (goes_with_grants slot p slots) old new) held.told only))
