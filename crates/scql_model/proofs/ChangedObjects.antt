-- A valid database stays valid where an object is added.
use Rattle.std.proofs.Common.{◌≡◌, ℕ, zero, suc, ◌+◌, ◌<◌, ◌≤◌, Bool, true, false, List, [], ◌∷◌, ◌++◌, map, Option, Some, None, option_map, refl, sym, subst, arith}
use Rattle.std.specs.Prelude.{◌==◌, ◌&&◌, ◌||◌, nat_lt, option_and_then}
use Rattle.std.specs.List.{list_any, AllByRecursion}
use Rattle.std.specs.Option.{option_map_or, option_or}
use Rattle.std.specs.Str.{bytes_eq}
use Rattle.std.proofs.lemmas.Bool.{and_parts, and_from, false≢true}
use Rattle.std.proofs.lemmas.Option.{none-some}
use Rattle.std.proofs.lemmas.List.{map-append}
use Rattle.std.proofs.lemmas.List.Folds.{find-append}
use Rattle.scql_base.specs.declared.condition.Condition.{Condition}
use Rattle.scql_base.specs.declared.records.User.{User}
use Rattle.scql_base.specs.declared.records.Object.{Object}
use Rattle.scql_base.specs.declared.records.ObjectKind.{ObjectKind}
use Rattle.scql_base.specs.declared.records.ObjectKind.TheVariants.{Table, View, Dictionary}
use Rattle.scql_base.specs.declared.records.Grant.{Grant}
use Rattle.scql_base.specs.declared.records.RowRecord.{RowRecord}
use Rattle.scql_model.specs.Objects.{columns_of, depth_over, depth_below, depth_of}
use Rattle.scql_model.specs.Records.{counter_record, object_fits}
use Rattle.scql_model.specs.Rules.{AreObjects, AreGrants, AreRows, are_named_among, are_different, is_made_by_maker, object_stamped, may_have_view, rests_on, is_founded, is_short, has_object_and_grantee, has_table, fits_table}
use Rattle.scql_model.specs.Database.{Database, IsValid, weight, stored_object}
use Rattle.scql_model.proofs.LongerLists.{all-weaker, all-added, any-more, found-more, rises-added, not_equal-sym}
use Rattle.scql_model.proofs.Apart.{apart_by-added}
use Rattle.scql_model.proofs.RecordLengths.{storable-object}
use Rattle.scql_model.proofs.RecordsOf.{before_objects, behind_objects, records_of-objects}
use Rattle.scql_model.proofs.Stored.{IsStored-added, below-of_kind}

abbrev stamp_of : Object → ℕ
stamp_of o = o.stamp

-- among more objects an object that has a depth has the same
depth_over-more : (n d : ℕ) (objects more : List Object) (kind : ObjectKind) → ((stamp e : ℕ) → depth_below n objects stamp ≡ Some e → depth_below n (objects ++ more) stamp ≡ Some e)
    → depth_over (depth_below n objects) kind ≡ Some d → depth_over (depth_below n (objects ++ more)) kind ≡ Some d
depth_over-more n d objects more (Table columns) lower is = is
depth_over-more n d objects more (View base columns conditions) lower is = go (depth_below n objects base) refl is
  where
    go : (o : Option ℕ) → depth_below n objects base ≡ o → option_map suc o ≡ Some d → option_map suc (depth_below n (objects ++ more) base) ≡ Some d
    go None e is = absurd (none-some d is)
    go (Some k) e is = rw (lower base k e) is
depth_over-more n d objects more (Dictionary subject) lower is = is

depth_below-more : (n d : ℕ) (objects more : List Object) (stamp : ℕ) → depth_below n objects stamp ≡ Some d → depth_below n (objects ++ more) stamp ≡ Some d
depth_below-more zero d objects more stamp is = absurd (none-some d is)
depth_below-more (suc n) d objects more stamp is =
    rw (find-append (λ (o : Object). o.stamp == stamp) objects more)
    (go n d objects more (λ stamp e. depth_below-more n e objects more stamp) (object_stamped objects stamp) (object_stamped more stamp) is)
  where
    go : (n d : ℕ) (objects more : List Object) → ((stamp e : ℕ) → depth_below n objects stamp ≡ Some e → depth_below n (objects ++ more) stamp ≡ Some e) → (o rest : Option Object)
        → option_and_then (λ (o : Object). depth_over (depth_below n objects) o.kind) o ≡ Some d
        → option_and_then (λ (o : Object). depth_over (depth_below n (objects ++ more)) o.kind) (option_or o rest) ≡ Some d
    go n d objects more lower None rest is = absurd (none-some d is)
    go n d objects more lower (Some o) rest is = depth_over-more n d objects more o.kind lower is

may_have_view-more : (objects more : List Object) (base : Object) → may_have_view objects base ≡ true → may_have_view (objects ++ more) base ≡ true
unfolding depth_of
may_have_view-more objects more base may = go (depth_below 5 objects base.stamp) refl may
  where
    go : (o : Option ℕ) → depth_below 5 objects base.stamp ≡ o → option_map_or (λ depth. nat_lt depth 4) o false ≡ true
        → option_map_or (λ depth. nat_lt depth 4) (depth_below 5 (objects ++ more) base.stamp) false ≡ true
    go None is may = absurd (false≢true may)
    go (Some d) is may = rw (depth_below-more 5 d objects more base.stamp is) may

rests_on-more : (objects more : List Object) (o : Object) (columns : List (List ℕ)) (conditions : List Condition) (base : Object) → rests_on objects o columns conditions base ≡ true
    → rests_on (objects ++ more) o columns conditions base ≡ true
rests_on-more objects more o columns conditions base rests =
    third (nat_lt base.stamp o.stamp) (base.owner == o.owner) (may_have_view objects base) (may_have_view (objects ++ more) base) (are_named_among (columns_of base.kind) columns conditions)
    (may_have_view-more objects more base) rests
  where
    third : (a b c c' d : Bool) → (c ≡ true → c' ≡ true) → a && b && c && d ≡ true → a && b && c' && d ≡ true
    third a b c c' d more all =
        let last = and_parts (a && b && c) d all in
        let front = and_parts (a && b) c last.0 in
        and_from (a && b && c') d (and_from (a && b) c' front.0 (more front.1)) last.1

option_map_or-weaker : {X : Type 0} (p q : X → Bool) (o : Option X) → ((x : X) → p x ≡ true → q x ≡ true) → option_map_or p o false ≡ true → option_map_or q o false ≡ true
option_map_or-weaker p q None more is = absurd (false≢true is)
option_map_or-weaker p q (Some x) more is = more x is

-- what is founded stays so among more objects
is_founded-more : (objects more : List Object) (o : Object) → is_founded objects o ≡ true → is_founded (objects ++ more) o ≡ true
is_founded-more objects more o founded = go o.kind refl founded
  where
    go : (kind : ObjectKind) → o.kind ≡ kind → is_founded objects o ≡ true → is_founded (objects ++ more) o ≡ true
    go (Table columns) e founded = rw e (rw e at founded)
    go (View base columns conditions) e founded =
        let parts = and_parts (are_different columns) (option_map_or (rests_on objects o columns conditions) (object_stamped objects base) false) (rw e at founded) in
        rw e (and_from (are_different columns) (option_map_or (rests_on (objects ++ more) o columns conditions) (object_stamped (objects ++ more) base) false) parts.0
        (found-more (rests_on (objects ++ more) o columns conditions) (λ (p : Object). p.stamp == base) objects more
        (option_map_or-weaker (rests_on objects o columns conditions) (rests_on (objects ++ more) o columns conditions) (object_stamped objects base)
        (rests_on-more objects more o columns conditions) parts.1)))
    go (Dictionary subject) e founded = rw e refl

-- an object that may stand among these users and objects
pub record IsObjectOf (users : List User) (objects : List Object) (o : Object) : Type 0 where
  pub fits : object_fits o ≡ true
  pub short : is_short o ≡ true
  pub maker : is_made_by_maker users o.owner ≡ true
  pub founded : is_founded objects o ≡ true

-- the objects' own rules, and those of grants and rows among more objects
AreObjects-added : (users : List User) (objects : List Object) (o : Object) → AreObjects users objects → IsObjectOf users objects o → list_any (bytes_eq o.name) (map (λ (p : Object). p.name) objects) ≡ false
    → AllByRecursion (λ p. stamp_of p < stamp_of o) objects → AreObjects users (objects ++ o ∷ [])
AreObjects-added users objects o are is free below = record {
  rises = rises-added stamp_of objects o are.rises below;
  limits = all-added object_fits objects o are.limits is.fits;
  lengths = all-added is_short objects o are.lengths is.short;
  names = rw (map-append (λ (p : Object). p.name) objects (o ∷ [])) (apart_by-added bytes_eq (map (λ (p : Object). p.name) objects) o.name not_equal-sym are.names free);
  makers = all-added (λ (p : Object). is_made_by_maker users p.owner) objects o are.makers is.maker;
  founded = all-added (is_founded (objects ++ o ∷ [])) objects o
      (all-weaker (is_founded objects) (is_founded (objects ++ o ∷ [])) objects (is_founded-more objects (o ∷ [])) are.founded) (is_founded-more objects (o ∷ []) o is.founded);
}

AreGrants-more_objects : (users : List User) (objects more : List Object) (grants : List Grant) → AreGrants users objects grants → AreGrants users (objects ++ more) grants
AreGrants-more_objects users objects more grants are = record {
  rises = are.rises;
  limits = are.limits;
  parties = all-weaker (has_object_and_grantee users objects) (has_object_and_grantee users (objects ++ more)) grants (kept_grant users objects more) are.parties;
  pairs = are.pairs;
}
  where
    kept_grant : (users : List User) (objects more : List Object) (g : Grant) → has_object_and_grantee users objects g ≡ true → has_object_and_grantee users (objects ++ more) g ≡ true
    kept_grant users objects more g has =
        let grantee = (g.grantee == 0) || list_any (λ (u : User). u.stamp == g.grantee) users in
        let is_object = λ (o : Object). o.stamp == g.object in
        let parts = and_parts (list_any is_object objects) grantee has in
        and_from (list_any is_object (objects ++ more)) grantee (any-more is_object objects more parts.0) parts.1

AreRows-more_objects : (limit : ℕ) (objects more : List Object) (rows : List RowRecord) → AreRows limit objects rows → AreRows limit (objects ++ more) rows
AreRows-more_objects limit objects more rows are = record {
  rises = are.rises;
  limits = are.limits;
  lengths = are.lengths;
  tables = all-weaker (has_table objects) (has_table (objects ++ more)) rows (λ r. found-more (fits_table r) (λ (o : Object). o.stamp == r.table) objects more) are.tables;
}

-- the database with the object behind all others
abbrev pub with_object : Database → Object → Database
with_object db o = record db { next = db.next + 1; objects = db.objects ++ o ∷ [] }

pub IsValid-with_object : (db : Database) (o : Object) → IsValid db → IsObjectOf db.users db.objects o → list_any (bytes_eq o.name) (map (λ (p : Object). p.name) db.objects) ≡ false → o.stamp ≡ db.next
    → weight (with_object db o) ≤ db.cells → counter_record.fits (db.next + 1) ≡ true → IsValid (with_object db o)
IsValid-with_object db o valid is free stamp room next =
    let low = valid.next in
    let below = below-of_kind stored_object (before_objects db) (behind_objects db) db.objects (records_of-objects db) valid.stored in
    record {
      cells = valid.cells;
      limit = valid.limit;
      next = omega arith;
      counter = next;
      stored = IsStored-added stored_object (before_objects db) (behind_objects db) db.objects o (records_of-objects db) (records_of-objects (with_object db o)) valid.stored stamp (omega arith)
          (storable-object o is.short) room;
      users = valid.users;
      objects = AreObjects-added db.users db.objects o valid.objects is free (subst (λ n. AllByRecursion (λ p. stamp_of p < n) db.objects) (sym stamp) below);
      grants = AreGrants-more_objects db.users db.objects (o ∷ []) db.grants valid.grants;
      rows = AreRows-more_objects db.limit db.objects (o ∷ []) db.rows valid.rows;
    }
