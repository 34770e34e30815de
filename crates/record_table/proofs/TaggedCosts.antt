-- What a search by a tag or a stamp reads, in cells of the database that the slots hold: those of the records that have the tag, or the stamp.
use Rattle.std.proofs.Common.{◌≡◌, ℕ, ◌+◌, ◌==◌, ◌≤◌, ◌||◌, Bool, true, false, if◌then◌else◌, List, [], ◌∷◌, Option, Some, None, is_some, slice_index, length, refl, sym, ap, ◌∙◌, inl, inr, arith}
use Rattle.std.specs.List.{cons_option, list_all}
use Rattle.std.proofs.lemmas.Bool.{and_parts, cases_Bool, true≢false}
use Rattle.std.proofs.lemmas.List.Sums.{sum_by-cons}
use Rattle.eeprom.specs.StoreOf.{Slots, cells_for}
use Rattle.eeprom.proofs.InOrder.{sum_by-in_order}
use Rattle.scql_base.specs.declared.records.Grant.{Grant}
use Rattle.scql_base.specs.declared.records.Object.{Object}
use Rattle.scql_base.specs.declared.records.User.{User}
use Rattle.scql_model.specs.Database.{Database}
use Rattle.scql_model.specs.Edits.{cells_of_record}
use Rattle.scql_model.specs.Opens.{Holds, is_spelled}
use Rattle.scql_model.specs.Records.{AnyRecord, of_user, of_object, of_grant, counter_in, user_in, object_in, grant_in, row_in}
use Rattle.catalog_codec.specs.Catalog.{counter_kind, user_kind, object_kind, grant_kind, row_kind}
use Rattle.catalog_codec.specs.CatalogLaws.{IsKind-counter, IsKind-user, IsKind-object, IsKind-grant, IsKind-row, HaveOtherMarks-counter-user, HaveOtherMarks-counter-object, HaveOtherMarks-counter-grant, HaveOtherMarks-user-object, HaveOtherMarks-user-grant, HaveOtherMarks-grant-object, HaveOtherMarks-row-user, HaveOtherMarks-row-object, HaveOtherMarks-row-grant}
use Rattle.catalog_codec.specs.KindLaws.{HaveOtherMarks-sym}
use Rattle.catalog_codec.specs.Kinds.{Kind, IsKind, HaveOtherMarks, read_as}
use Rattle.record_store.specs.Tags.{is_tagged, name_tag, pair_tag}
use Rattle.record_store.specs.declared.tags.Tag.{Tag}
use Rattle.record_store.specs.declared.tags.Tag.TheVariants.{Name, Stamp}
use Rattle.record_table.specs.Editable.{IsEditable}
use Rattle.record_table.specs.EditableLaws.{IsEditable-user, IsEditable-object, IsEditable-grant}
use Rattle.record_table.specs.Listed.{in_slots, listed}
use Rattle.record_table.specs.TagLaws.{tagged-object, tagged-grant}
use Rattle.record_table.specs.Tagged.{cells_tagged, cells_where, tagged_cells}
use Rattle.record_table.proofs.SlotReads.{unmarked}

-- a record that is spelled is read as one of the kind whose mark it has
abbrev AreRead : {X : Type 0} → Kind X → Type 0
AreRead {X} kind = (octets : List ℕ) → is_spelled (Some octets) ≡ true → kind.marks (slice_index octets 0) ≡ true → is_some (read_as kind octets) ≡ true

-- and not as one of another
other-kind : {X Y : Type 0} (kind : Kind X) (other : Kind Y) (octets : List ℕ) → IsKind other → HaveOtherMarks kind other → kind.marks (slice_index octets 0) ≡ true → is_some (read_as other octets) ≡ false
other-kind kind other octets is apart marked = ap is_some (unmarked other (Some octets) is (apart (slice_index octets 0) marked))

-- of five readers one alone may give something
second_alone : (b : Bool) → false || b || false || false || false ≡ true → b ≡ true
second_alone true is = refl
second_alone false is = is

third_alone : (b : Bool) → false || false || b || false || false ≡ true → b ≡ true
third_alone true is = refl
third_alone false is = is

fourth_alone : (b : Bool) → false || false || false || b || false ≡ true → b ≡ true
fourth_alone true is = refl
fourth_alone false is = is

read-user : AreRead user_kind
read-user octets spelled marked =
    let counter : is_some (counter_in octets) ≡ false = other-kind user_kind counter_kind octets IsKind-counter (HaveOtherMarks-sym counter_kind user_kind HaveOtherMarks-counter-user) marked in
    let object : is_some (object_in octets) ≡ false = other-kind user_kind object_kind octets IsKind-object HaveOtherMarks-user-object marked in
    let grant : is_some (grant_in octets) ≡ false = other-kind user_kind grant_kind octets IsKind-grant HaveOtherMarks-user-grant marked in
    let row : is_some (row_in octets) ≡ false = other-kind user_kind row_kind octets IsKind-row (HaveOtherMarks-sym row_kind user_kind HaveOtherMarks-row-user) marked in
    second_alone (is_some (user_in octets)) (rw (counter, object, grant, row) at spelled)

read-object : AreRead object_kind
read-object octets spelled marked =
    let counter : is_some (counter_in octets) ≡ false = other-kind object_kind counter_kind octets IsKind-counter (HaveOtherMarks-sym counter_kind object_kind HaveOtherMarks-counter-object) marked in
    let user : is_some (user_in octets) ≡ false = other-kind object_kind user_kind octets IsKind-user (HaveOtherMarks-sym user_kind object_kind HaveOtherMarks-user-object) marked in
    let grant : is_some (grant_in octets) ≡ false = other-kind object_kind grant_kind octets IsKind-grant (HaveOtherMarks-sym grant_kind object_kind HaveOtherMarks-grant-object) marked in
    let row : is_some (row_in octets) ≡ false = other-kind object_kind row_kind octets IsKind-row (HaveOtherMarks-sym row_kind object_kind HaveOtherMarks-row-object) marked in
    third_alone (is_some (object_in octets)) (rw (counter, user, grant, row) at spelled)

read-grant : AreRead grant_kind
read-grant octets spelled marked =
    let counter : is_some (counter_in octets) ≡ false = other-kind grant_kind counter_kind octets IsKind-counter (HaveOtherMarks-sym counter_kind grant_kind HaveOtherMarks-counter-grant) marked in
    let user : is_some (user_in octets) ≡ false = other-kind grant_kind user_kind octets IsKind-user (HaveOtherMarks-sym user_kind grant_kind HaveOtherMarks-user-grant) marked in
    let object : is_some (object_in octets) ≡ false = other-kind grant_kind object_kind octets IsKind-object HaveOtherMarks-grant-object marked in
    let row : is_some (row_in octets) ≡ false = other-kind grant_kind row_kind octets IsKind-row (HaveOtherMarks-sym row_kind grant_kind HaveOtherMarks-row-grant) marked in
    fourth_alone (is_some (grant_in octets)) (rw (counter, user, object, row) at spelled)

module _ {X : Type 0} (kind : Kind X) (any : X → AnyRecord) (editable : IsEditable kind any) (records : Database → List X) (held : (slots : Slots) (db : Database) → Holds slots db → listed kind slots ≡ records db) (read : AreRead kind) (tag : Tag) (p : X → Bool)
    (passes : (octets : List ℕ) (x : X) → read_as kind octets ≡ Some x → is_tagged tag octets ≡ true → p x ≡ true) where
  abbrev cells : X → ℕ
  cells x = cells_of_record (any x)

  -- what is read as a record takes the record's cells
  size : (octets : List ℕ) (x : X) → read_as kind octets ≡ Some x → cells_for (length octets) ≡ cells x
  size octets x is = ap cells_for (editable.lengths octets x is ∙ ap (λ (spelling : List ℕ). length spelling) (sym (editable.spells x)))

  slot-cells : (octets : List ℕ) (o : Option X) (rest : List X) → read_as kind octets ≡ o → is_spelled (Some octets) ≡ true
      → tagged_cells kind (Some tag) (Some octets) + cells_where cells p rest ≤ cells_where cells p (cons_option o rest)
  slot-cells octets o rest is spelled =
      elim (cases_Bool (is_tagged tag octets)) [
        | inr other ↦ rw other (more o)
        | inl tagged ↦ elim (cases_Bool (kind.marks (slice_index octets 0))) [
          | inr unmarked ↦ rw (tagged, unmarked) (more o)
          | inl marked ↦ found o is (ap is_some (sym is) ∙ read octets spelled marked) tagged marked
        ]
      ]
    where
      more : (o : Option X) → 0 + cells_where cells p rest ≤ cells_where cells p (cons_option o rest)
      more None = omega arith
      more (Some x) = let sum = sum_by-cons (λ x. if p x then cells x else 0) x rest in omega (arith, sum)

      found : (o : Option X) → read_as kind octets ≡ o → is_some o ≡ true → is_tagged tag octets ≡ true → kind.marks (slice_index octets 0) ≡ true
          → tagged_cells kind (Some tag) (Some octets) + cells_where cells p rest ≤ cells_where cells p (cons_option o rest)
      found None is some tagged marked = absurd (true≢false (sym some))
      found (Some x) is some tagged marked =
          let here : (if p x then cells x else 0) ≡ cells x = rw (passes octets x is tagged) refl in
          let sum = sum_by-cons (λ x. if p x then cells x else 0) x rest in
          rw (tagged, marked) (omega (arith, here, sum, size octets x is))

  tagged-slots : (slots : Slots) → list_all is_spelled slots ≡ true → cells_tagged kind (Some tag) slots ≤ cells_where cells p (in_slots kind slots)
  tagged-slots [] spelled = omega arith
  tagged-slots (None ∷ slots) spelled = let sum = sum_by-cons (tagged_cells kind (Some tag)) None slots in omega (arith, sum, tagged-slots slots spelled)
  tagged-slots (Some octets ∷ slots) spelled =
      let parts = and_parts (is_spelled (Some octets)) (list_all is_spelled slots) spelled in
      let sum = sum_by-cons (tagged_cells kind (Some tag)) (Some octets) slots in
      omega (arith, sum, tagged-slots slots parts.1, slot-cells octets (read_as kind octets) (in_slots kind slots) refl parts.0)

  -- the cells of the records of a tag are those of the records that a database has of it
  tagged-held : (slots : Slots) (db : Database) → Holds slots db → cells_tagged kind (Some tag) slots ≤ cells_where cells p (records db)
  tagged-held slots db holds =
      let all = sum_by-in_order kind.key (λ x. if p x then cells x else 0) (in_slots kind slots) in
      let listed' = ap (cells_where cells p) (held slots db holds) in
      omega (arith, tagged-slots slots holds.spelled, all, listed')

-- of a stamp
module _ {X : Type 0} (kind : Kind X) (any : X → AnyRecord) (editable : IsEditable kind any) (records : Database → List X) (held : (slots : Slots) (db : Database) → Holds slots db → listed kind slots ≡ records db) (read : AreRead kind) where
  stamped-held : (stamp : ℕ) (slots : Slots) (db : Database) → Holds slots db
      → cells_tagged kind (Some (Stamp stamp)) slots ≤ cells_where (λ x. cells_of_record (any x)) (λ x. kind.key x == stamp) (records db)
  stamped-held stamp = tagged-held kind any editable records held read (Stamp stamp) (λ x. kind.key x == stamp) (λ octets x is tagged. ap (λ (n : ℕ). n == stamp) (sym (editable.stamped octets x is)) ∙ tagged)

pub user-of_stamp : (stamp : ℕ) (slots : Slots) (db : Database) → Holds slots db → cells_tagged user_kind (Some (Stamp stamp)) slots ≤ cells_where (λ (u : User). cells_of_record (of_user u)) (λ (u : User). u.stamp == stamp) db.users
user-of_stamp = stamped-held user_kind of_user IsEditable-user (λ db. db.users) (λ slots db holds. holds.users) read-user

pub object-of_stamp : (stamp : ℕ) (slots : Slots) (db : Database) → Holds slots db → cells_tagged object_kind (Some (Stamp stamp)) slots ≤ cells_where (λ (o : Object). cells_of_record (of_object o)) (λ (o : Object). o.stamp == stamp) db.objects
object-of_stamp = stamped-held object_kind of_object IsEditable-object (λ db. db.objects) (λ slots db holds. holds.objects) read-object

-- of a name, and of an object and a grantee
pub objects-of_name : (name : List ℕ) (slots : Slots) (db : Database) → Holds slots db
    → cells_tagged object_kind (Some (Name (name_tag name))) slots ≤ cells_where (λ (o : Object). cells_of_record (of_object o)) (λ (o : Object). name_tag o.name == name_tag name) db.objects
objects-of_name name =
    tagged-held object_kind of_object IsEditable-object (λ db. db.objects) (λ slots db holds. holds.objects) read-object (Name (name_tag name)) (λ (o : Object). name_tag o.name == name_tag name)
    (λ octets o is tagged. ap (λ (n : ℕ). n == name_tag name) (sym (tagged-object octets o is)) ∙ tagged)

pub grants-of_pair : (object grantee : ℕ) (slots : Slots) (db : Database) → Holds slots db
    → cells_tagged grant_kind (Some (Name (pair_tag object grantee))) slots ≤ cells_where (λ (g : Grant). cells_of_record (of_grant g)) (λ (g : Grant). pair_tag g.object g.grantee == pair_tag object grantee) db.grants
grants-of_pair object grantee =
    tagged-held grant_kind of_grant IsEditable-grant (λ db. db.grants) (λ slots db holds. holds.grants) read-grant (Name (pair_tag object grantee)) (λ (g : Grant). pair_tag g.object g.grantee == pair_tag object grantee)
    (λ octets g is tagged. ap (λ (n : ℕ). n == pair_tag object grantee) (sym (tagged-grant octets g is)) ∙ tagged)
