-- All records of a kind that pass a test are taken out of slots: the database that the slots hold then.
use Rattle.std.proofs.Common.{◌≡◌, ℕ, zero, suc, ◌+◌, Bool, true, false, not, cond, List, [], ◌∷◌, length, count_by, Option, Some, None, refl, sym, ap, subst, ◌∙◌, inl, inr, arith}
use Rattle.std.specs.List.{filter, filter_map, list_all, cons_option}
use Rattle.std.proofs.lemmas.Bool.{cases_Bool, and_parts}
use Rattle.std.proofs.lemmas.List.{length-map}
use Rattle.std.proofs.lemmas.List.Sums.{length-filter}
use Rattle.eeprom.specs.Slots.{Rises, has, in_order, in_slot}
use Rattle.eeprom.specs.StoreOf.{Slots}
use Rattle.eeprom.proofs.InOrder.{AreApart-rising, count_by-cons, count_by-in_order, filter-in_order}
use Rattle.scql_base.specs.declared.records.Grant.{Grant}
use Rattle.scql_base.specs.declared.records.RowRecord.{RowRecord}
use Rattle.scql_model.specs.Database.{Database}
use Rattle.scql_model.specs.Opens.{Holds, counter_stamp, is_spelled}
use Rattle.scql_model.specs.Records.{counter_in}
use Rattle.catalog_codec.specs.Kinds.{Kind, HaveOtherMarks, IsKind, read_as}
use Rattle.catalog_codec.specs.KindLaws.{HaveOtherMarks-sym}
use Rattle.catalog_codec.specs.Catalog.{counter_kind, user_kind, object_kind, grant_kind, row_kind}
use Rattle.catalog_codec.specs.CatalogLaws.{IsKind-counter, IsKind-user, IsKind-object, IsKind-grant, IsKind-row, HaveOtherMarks-counter-grant, HaveOtherMarks-user-grant, HaveOtherMarks-grant-object, HaveOtherMarks-row-counter, HaveOtherMarks-row-user, HaveOtherMarks-row-object, HaveOtherMarks-row-grant}
use Rattle.record_table.specs.Editable.{LeavesOthers}
use Rattle.record_table.specs.Listed.{at_slot, in_slots, listed}
use Rattle.record_table.proofs.ListedChanges.{is_of, is_of-read, no_other}
use Rattle.record_table.specs.Swept.{all_without, has_passing, without_passing}

module _ {X : Type 0} (kind : Kind X) (p : X → Bool) where
  -- what a slot says that has a record of the kind, or none
  pub has-of : (entry : Option (List ℕ)) (x : Option X) → in_slot (read_as kind) entry ≡ x → has_passing kind p entry ≡ true → (y : X) × (in_slot (read_as kind) entry ≡ Some y)
  has-of entry None is has = absurd (let wrong : false ≡ true = rw is at has in cc)
  has-of entry (Some y) is has = (y, is)

  -- the records that are left are those that don't pass
  in_slots-without : (slots : Slots) → in_slots kind (all_without kind p slots) ≡ filter (λ x. not (p x)) (in_slots kind slots)
  in_slots-without [] = refl
  in_slots-without (entry ∷ slots) = one (in_slots-without slots) (in_slot (read_as kind) entry) refl
    where
      one : in_slots kind (all_without kind p slots) ≡ filter (λ x. not (p x)) (in_slots kind slots) → (x : Option X) → in_slot (read_as kind) entry ≡ x → in_slots kind (all_without kind p (entry ∷ slots)) ≡ filter (λ x. not (p x)) (in_slots kind (entry ∷ slots))
      one rest None is = rw is (rw is rest)
      one rest (Some x) is =
          elim (cases_Bool (p x)) [
            | inl t ↦ rw (is, t) rest
            | inr f ↦ rw (is, f) (rw is (ap (λ rest. x ∷ rest) rest))
          ]

  pub listed-without : (slots : Slots) → Rises kind.key (listed kind slots) → listed kind (all_without kind p slots) ≡ filter (λ x. not (p x)) (listed kind slots)
  listed-without slots rises =
      ap (in_order kind.key) (in_slots-without slots) ∙ sym (filter-in_order kind.key (λ x. not (p x)) (in_slots kind slots) (λ k. omega (arith, AreApart-rising kind.key (listed kind slots) rises k, count_by-in_order kind.key (has kind.key k) (in_slots kind slots))))

  in_slots-count : (slots : Slots) → count_by (has_passing kind p) slots ≡ count_by p (in_slots kind slots)
  in_slots-count [] = refl
  in_slots-count (entry ∷ slots) = one (in_slots-count slots) (in_slot (read_as kind) entry) refl
    where
      one : count_by (has_passing kind p) slots ≡ count_by p (in_slots kind slots) → (x : Option X) → in_slot (read_as kind) entry ≡ x
          → count_by (has_passing kind p) (entry ∷ slots) ≡ count_by p (in_slots kind (entry ∷ slots))
      one rest None is = count_by-cons (has_passing kind p) entry slots ∙ rw is (omega (arith, rest))
      one rest (Some x) is = count_by-cons (has_passing kind p) entry slots ∙ rw is (ap (λ n. cond {A = ℕ} (p x) 1 0 + n) rest ∙ sym (count_by-cons p x (in_slots kind slots)))

  -- as many slots have a record that passes as the list has records that do
  pub count-passing : (slots : Slots) → count_by (has_passing kind p) slots ≡ length (filter p (listed kind slots))
  count-passing slots = in_slots-count slots ∙ sym (count_by-in_order kind.key p (in_slots kind slots)) ∙ sym (length-filter p (listed kind slots))

  -- each slot is spelled as before, or empty
  spelled-without : (slots : Slots) → list_all is_spelled slots ≡ true → list_all is_spelled (all_without kind p slots) ≡ true
  spelled-without [] all = refl
  spelled-without (entry ∷ slots) all =
      let parts = and_parts (is_spelled entry) (list_all is_spelled slots) all in
      elim (cases_Bool (has_passing kind p entry)) [
        | inl t ↦ rw t (spelled-without slots parts.1)
        | inr f ↦ rw (f, parts.0) (spelled-without slots parts.1)
      ]

  -- records of kinds with other marks stay
  others-without : {Y : Type 0} (other : List ℕ → Option Y) (slots : Slots) → IsKind kind → ((entry : Option (List ℕ)) → is_of kind entry ≡ true → in_slot other entry ≡ None)
      → filter_map (in_slot other) (all_without kind p slots) ≡ filter_map (in_slot other) slots
  others-without other [] is apart = refl
  others-without other (entry ∷ slots) is apart =
      elim (cases_Bool (has_passing kind p entry)) [
        | inl t ↦ (let there = has-of entry (in_slot (read_as kind) entry) refl t in
            let none = apart entry (is_of-read kind entry there.0 is there.1) in
            rw (t, none) (others-without other slots is apart))
        | inr f ↦ rw f (ap (cons_option (in_slot other entry)) (others-without other slots is apart))
      ]

  pub LeavesOthers-without : (slots : Slots) → IsKind kind → list_all is_spelled slots ≡ true → LeavesOthers kind slots (all_without kind p slots)
  LeavesOthers-without slots is spelled = record {
    cells = length-map slots (without_passing kind p);
    spelled = spelled-without slots spelled;
    counter = λ apart. ap (in_order counter_stamp) (others-without counter_in slots is (λ entry of_kind. no_other kind counter_kind entry IsKind-counter apart of_kind));
    users = λ apart. ap (in_order user_kind.key) (others-without (read_as user_kind) slots is (λ entry of_kind. no_other kind user_kind entry IsKind-user apart of_kind));
    objects = λ apart. ap (in_order object_kind.key) (others-without (read_as object_kind) slots is (λ entry of_kind. no_other kind object_kind entry IsKind-object apart of_kind));
    grants = λ apart. ap (in_order grant_kind.key) (others-without (read_as grant_kind) slots is (λ entry of_kind. no_other kind grant_kind entry IsKind-grant apart of_kind));
    rows = λ apart. ap (in_order row_kind.key) (others-without (read_as row_kind) slots is (λ entry of_kind. no_other kind row_kind entry IsKind-row apart of_kind));
  }

-- a slot has the record of a kind with other marks that it had
pub at_slot-without : {X Y : Type 0} (kind : Kind X) (p : X → Bool) (other : Kind Y) → IsKind kind → IsKind other → HaveOtherMarks kind other → (slots : Slots) (place : ℕ)
    → at_slot other place (all_without kind p slots) ≡ at_slot other place slots
at_slot-without kind p other is is_other apart [] place = refl
at_slot-without kind p other is is_other apart (entry ∷ slots) zero =
    elim (cases_Bool (has_passing kind p entry)) [
      | inl t ↦ (let there = has-of kind p entry (in_slot (read_as kind) entry) refl t in
          rw t (sym (no_other kind other entry is_other apart (is_of-read kind entry there.0 is there.1))))
      | inr f ↦ rw f refl
    ]
at_slot-without kind p other is is_other apart (entry ∷ slots) (suc place) = at_slot-without kind p other is is_other apart slots place

-- the grants that pass a test are removed
pub Holds-without_grants : (p : Grant → Bool) (slots : Slots) (db : Database) → Holds slots db → Rises grant_kind.key db.grants
    → Holds (all_without grant_kind p slots) (record db { grants = filter (λ (g : Grant). not (p g)) db.grants })
Holds-without_grants p slots db holds rises =
    let others = LeavesOthers-without grant_kind p slots IsKind-grant holds.spelled in
    record {
      cells = others.cells ∙ holds.cells;
      spelled = others.spelled;
      counter = others.counter (HaveOtherMarks-sym counter_kind grant_kind HaveOtherMarks-counter-grant) ∙ holds.counter;
      users = others.users (HaveOtherMarks-sym user_kind grant_kind HaveOtherMarks-user-grant) ∙ holds.users;
      objects = others.objects HaveOtherMarks-grant-object ∙ holds.objects;
      grants = listed-without grant_kind p slots (subst (Rises grant_kind.key) (sym holds.grants) rises) ∙ ap (filter (λ (g : Grant). not (p g))) holds.grants;
      rows = others.rows (HaveOtherMarks-sym row_kind grant_kind HaveOtherMarks-row-grant) ∙ holds.rows;
    }

-- the rows that pass a test are removed
pub Holds-without_rows : (p : RowRecord → Bool) (slots : Slots) (db : Database) → Holds slots db → Rises row_kind.key db.rows
    → Holds (all_without row_kind p slots) (record db { rows = filter (λ (r : RowRecord). not (p r)) db.rows })
Holds-without_rows p slots db holds rises =
    let others = LeavesOthers-without row_kind p slots IsKind-row holds.spelled in
    record {
      cells = others.cells ∙ holds.cells;
      spelled = others.spelled;
      counter = others.counter HaveOtherMarks-row-counter ∙ holds.counter;
      users = others.users HaveOtherMarks-row-user ∙ holds.users;
      objects = others.objects HaveOtherMarks-row-object ∙ holds.objects;
      grants = others.grants HaveOtherMarks-row-grant ∙ holds.grants;
      rows = listed-without row_kind p slots (subst (Rises row_kind.key) (sym holds.rows) rises) ∙ ap (filter (λ (r : RowRecord). not (p r))) holds.rows;
    }
