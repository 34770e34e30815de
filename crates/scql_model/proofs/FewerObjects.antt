-- A valid database stays valid without an object that no row, no grant and no view names.
use Rattle.std.proofs.Common.{◌≡◌, ℕ, zero, suc, Bool, true, false, List, filter, not, Option, Some, None, option_map, refl, sym, ap, ◌∙◌}
use Rattle.std.specs.Prelude.{nat_lt, ◌==◌, option_and_then}
use Rattle.std.specs.List.{list_all}
use Rattle.std.specs.Option.{option_map_or}
use Rattle.std.specs.Str.{bytes_eq}
use Rattle.std.proofs.lemmas.Bool.{and_parts, and_from, not-true, eqb-true}
use Rattle.eeprom.specs.Slots.{without}
use Rattle.scql_base.specs.declared.condition.Condition.{Condition}
use Rattle.scql_base.specs.declared.records.User.{User}
use Rattle.scql_base.specs.declared.records.Object.{Object}
use Rattle.scql_base.specs.declared.records.ObjectKind.{ObjectKind}
use Rattle.scql_base.specs.declared.records.ObjectKind.TheVariants.{Table, View, Dictionary}
use Rattle.scql_base.specs.declared.records.Grant.{Grant}
use Rattle.scql_base.specs.declared.records.RowRecord.{RowRecord}
use Rattle.scql_model.specs.Objects.{depth_over, depth_below, depth_of}
use Rattle.scql_model.specs.Records.{object_fits}
use Rattle.scql_model.specs.Rules.{AreObjects, AreGrants, AreRows, are_different, is_made_by_maker, object_stamped, may_have_view, rests_on, is_founded, is_short, has_object_and_grantee, has_table}
use Rattle.scql_model.specs.Database.{Database, IsValid, stored_object}
use Rattle.scql_model.proofs.LongerLists.{all-by_both, find-passes, find-all}
use Rattle.scql_model.proofs.ChangedLists.{Rises-filter, list_all-filter, find-without, any-without}
use Rattle.scql_model.proofs.Apart.{apart_by-filter, apart_by-map}
use Rattle.scql_model.proofs.RecordsOf.{before_objects, behind_objects, records_of-objects}
use Rattle.scql_model.proofs.Stored.{IsStored-removed}

abbrev stamp_of : Object → ℕ
stamp_of o = o.stamp

-- whether an object is a view that rests on that of a stamp
abbrev pub is_view_of : ℕ → ObjectKind → Bool
is_view_of stamp (View base columns conditions) = base == stamp
is_view_of stamp kind = false

-- no view rests on what goes
abbrev AreElsewhere : ℕ → List Object → Type 0
AreElsewhere gone objects = list_all (λ (o : Object). not (is_view_of gone o.kind)) objects ≡ true

-- so depths stay
depth_over-without : (n gone : ℕ) (objects : List Object) (kind : ObjectKind) → not (is_view_of gone kind) ≡ true
    → ((stamp : ℕ) → (stamp == gone) ≡ false → depth_below n (without stamp_of gone objects) stamp ≡ depth_below n objects stamp)
    → depth_over (depth_below n (without stamp_of gone objects)) kind ≡ depth_over (depth_below n objects) kind
depth_over-without n gone objects (Table columns) elsewhere lower = refl
depth_over-without n gone objects (View base columns conditions) elsewhere lower = ap (option_map suc) (lower base (not-true (base == gone) elsewhere))
depth_over-without n gone objects (Dictionary subject) elsewhere lower = refl

depth_below-without : (n gone : ℕ) (objects : List Object) → AreElsewhere gone objects → (stamp : ℕ) → (stamp == gone) ≡ false
    → depth_below n (without stamp_of gone objects) stamp ≡ depth_below n objects stamp
depth_below-without zero gone objects elsewhere stamp other = refl
depth_below-without (suc n) gone objects elsewhere stamp other =
    ap (option_and_then (λ (o : Object). depth_over (depth_below n (without stamp_of gone objects)) o.kind)) (find-without stamp_of gone stamp objects other)
    ∙ go n gone objects (object_stamped objects stamp) (λ o. find-all (λ (o : Object). not (is_view_of gone o.kind)) (λ (o : Object). o.stamp == stamp) objects o elsewhere)
    (depth_below-without n gone objects elsewhere)
  where
    go : (n gone : ℕ) (objects : List Object) (found : Option Object) → ((o : Object) → found ≡ Some o → not (is_view_of gone o.kind) ≡ true)
        → ((stamp : ℕ) → (stamp == gone) ≡ false → depth_below n (without stamp_of gone objects) stamp ≡ depth_below n objects stamp)
        → option_and_then (λ (o : Object). depth_over (depth_below n (without stamp_of gone objects)) o.kind) found ≡ option_and_then (λ (o : Object). depth_over (depth_below n objects) o.kind) found
    go n gone objects None elsewhere lower = refl
    go n gone objects (Some o) elsewhere lower = depth_over-without n gone objects o.kind (elsewhere o refl) lower

may_have_view-without : (gone : ℕ) (objects : List Object) (base : Object) → AreElsewhere gone objects → (base.stamp == gone) ≡ false
    → may_have_view (without stamp_of gone objects) base ≡ may_have_view objects base
unfolding depth_of
may_have_view-without gone objects base elsewhere other = ap (λ (o : Option ℕ). option_map_or (λ depth. nat_lt depth 4) o false) (depth_below-without 5 gone objects elsewhere base.stamp other)

-- what is founded stays so
is_founded-without : (gone : ℕ) (objects : List Object) (o : Object) → AreElsewhere gone objects → not (is_view_of gone o.kind) ≡ true → is_founded objects o ≡ true
    → is_founded (without stamp_of gone objects) o ≡ true
is_founded-without gone objects o elsewhere other founded = go o.kind refl other founded
  where
    left : List Object
    left = without stamp_of gone objects

    rests : (columns : List (List ℕ)) (conditions : List Condition) (base : Object) → (base.stamp == gone) ≡ false → rests_on objects o columns conditions base ≡ true → rests_on left o columns conditions base ≡ true
    rests columns conditions base there is = rw (may_have_view-without gone objects base elsewhere there) is

    found : (columns : List (List ℕ)) (conditions : List Condition) (stamp : ℕ) (base : Option Object) → object_stamped objects stamp ≡ base → (stamp == gone) ≡ false
        → option_map_or (rests_on objects o columns conditions) base false ≡ true → option_map_or (rests_on left o columns conditions) base false ≡ true
    found columns conditions stamp None at there is = is
    found columns conditions stamp (Some base) at there is =
        let same = eqb-true base.stamp stamp (find-passes (λ (p : Object). p.stamp == stamp) objects base at) in
        rests columns conditions base (rw same there) is

    go : (kind : ObjectKind) → o.kind ≡ kind → not (is_view_of gone o.kind) ≡ true → is_founded objects o ≡ true → is_founded left o ≡ true
    go (Table columns) e other founded = rw e (rw e at founded)
    go (View base columns conditions) e other founded =
        let there = not-true (base == gone) (rw e at other) in
        let parts = and_parts (are_different columns) (option_map_or (rests_on objects o columns conditions) (object_stamped objects base) false) (rw e at founded) in
        rw e (and_from (are_different columns) (option_map_or (rests_on left o columns conditions) (object_stamped left base) false) parts.0
        (rw (find-without stamp_of gone base objects there) (found columns conditions base (object_stamped objects base) refl there parts.1)))
    go (Dictionary subject) e other founded = rw e refl

-- the objects' own rules, and those of grants and rows that name others
AreObjects-without : (gone : ℕ) (users : List User) (objects : List Object) → AreElsewhere gone objects → AreObjects users objects → AreObjects users (without stamp_of gone objects)
AreObjects-without gone users objects elsewhere are =
    let stays = λ (o : Object). not (o.stamp == gone) in
    let name = λ (o : Object). o.name in
    record {
      rises = Rises-filter stays stamp_of objects are.rises;
      limits = list_all-filter stays object_fits objects are.limits;
      lengths = list_all-filter stays is_short objects are.lengths;
      names = apart_by-map bytes_eq name (filter stays objects) ∙ apart_by-filter (λ o p. bytes_eq (name o) (name p)) stays objects (sym (apart_by-map bytes_eq name objects) ∙ are.names);
      makers = list_all-filter stays (λ (o : Object). is_made_by_maker users o.owner) objects are.makers;
      founded = list_all-filter stays (is_founded (without stamp_of gone objects)) objects
          (all-by_both (λ (o : Object). not (is_view_of gone o.kind)) (is_founded objects) (is_founded (without stamp_of gone objects)) objects
          (λ o other founded. is_founded-without gone objects o elsewhere other founded) elsewhere are.founded);
    }

AreGrants-without_object : (gone : ℕ) (users : List User) (objects : List Object) (grants : List Grant) → list_all (λ (g : Grant). not (g.object == gone)) grants ≡ true → AreGrants users objects grants
    → AreGrants users (without stamp_of gone objects) grants
AreGrants-without_object gone users objects grants others are = record {
  rises = are.rises;
  limits = are.limits;
  parties = all-by_both (λ (g : Grant). not (g.object == gone)) (has_object_and_grantee users objects) (has_object_and_grantee users (without stamp_of gone objects)) grants (one gone users objects) others are.parties;
  pairs = are.pairs;
}
  where
    one : (gone : ℕ) (users : List User) (objects : List Object) (g : Grant) → not (g.object == gone) ≡ true → has_object_and_grantee users objects g ≡ true
        → has_object_and_grantee users (without stamp_of gone objects) g ≡ true
    one gone users objects g other has =
        rw (any-without stamp_of gone g.object objects (not-true (g.object == gone) other)) has

AreRows-without_object : (gone limit : ℕ) (objects : List Object) (rows : List RowRecord) → list_all (λ (r : RowRecord). not (r.table == gone)) rows ≡ true → AreRows limit objects rows
    → AreRows limit (without stamp_of gone objects) rows
AreRows-without_object gone limit objects rows others are = record {
  rises = are.rises;
  limits = are.limits;
  lengths = are.lengths;
  tables = all-by_both (λ (r : RowRecord). not (r.table == gone)) (has_table objects) (has_table (without stamp_of gone objects)) rows (one gone objects) others are.tables;
}
  where
    one : (gone : ℕ) (objects : List Object) (r : RowRecord) → not (r.table == gone) ≡ true → has_table objects r ≡ true → has_table (without stamp_of gone objects) r ≡ true
    one gone objects r other has = rw (find-without stamp_of gone r.table objects (not-true (r.table == gone) other)) has

-- the database without the object of a stamp
abbrev pub without_object : Database → ℕ → Database
without_object db gone = record db { objects = without stamp_of gone db.objects }

-- nothing names the object of a stamp
pub record IsFree (db : Database) (gone : ℕ) : Type 0 where
  pub no_view : AreElsewhere gone db.objects
  pub no_grant : list_all (λ (g : Grant). not (g.object == gone)) db.grants ≡ true
  pub no_row : list_all (λ (r : RowRecord). not (r.table == gone)) db.rows ≡ true

pub IsValid-without_object : (db : Database) (gone : ℕ) → IsValid db → IsFree db gone → IsValid (without_object db gone)
IsValid-without_object db gone valid free = record {
  cells = valid.cells;
  limit = valid.limit;
  next = valid.next;
  counter = valid.counter;
  stored = IsStored-removed stored_object (before_objects db) (behind_objects db) db.objects (λ (o : Object). not (o.stamp == gone)) (records_of-objects db) (records_of-objects (without_object db gone)) valid.stored;
  users = valid.users;
  objects = AreObjects-without gone db.users db.objects free.no_view valid.objects;
  grants = AreGrants-without_object gone db.users db.objects db.grants free.no_grant valid.grants;
  rows = AreRows-without_object gone db.limit db.objects db.rows free.no_row valid.rows;
}
