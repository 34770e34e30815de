-- Users, objects, grants and rows owe what a kind owes towards a database.
use Rattle.std.proofs.Common.{◌≡◌, ◌||◌, ℕ, Bool, true, false, List, [], Option, Some, None, is_some, refl, ap, ◌∙◌, arith}
use Rattle.scql_base.specs.declared.records.User.{User}
use Rattle.scql_base.specs.declared.records.Object.{Object}
use Rattle.scql_base.specs.declared.records.Grant.{Grant}
use Rattle.scql_base.specs.declared.records.RowRecord.{RowRecord}
use Rattle.scql_model.specs.Records.{of_user, of_object, of_grant, of_row, counter_in, user_in, object_in, grant_in, row_in}
use Rattle.scql_model.specs.Database.{stored_user, stored_object, stored_grant, stored_row}
use Rattle.scql_model.specs.Edits.{edited}
use Rattle.scql_model.proofs.EditLaws.{weight-kinds}
use Rattle.scql_model.proofs.KindsApart.{given, one_kind}
use Rattle.scql_model.proofs.RecordsOf.{before_rows, before_grants, behind_grants, before_objects, behind_objects, behind_users, records_of-users, records_of-objects, records_of-grants, records_of-rows}
use Rattle.scql_model.proofs.SpellingLengths.{length-user_in, length-object_in, length-grant_in, length-row_in}
use Rattle.scql_model.proofs.Stored.{below-of_kind}
use Rattle.catalog_codec.specs.Catalog.{counter_kind, user_kind, object_kind, grant_kind, row_kind}
use Rattle.catalog_codec.specs.KindLaws.{HaveOtherMarks-sym}
use Rattle.catalog_codec.specs.CatalogLaws.{IsKind-user, IsKind-object, IsKind-grant, IsKind-row, HaveOtherMarks-counter-user, HaveOtherMarks-counter-object, HaveOtherMarks-counter-grant, HaveOtherMarks-user-object, HaveOtherMarks-user-grant, HaveOtherMarks-grant-object, HaveOtherMarks-row-counter, HaveOtherMarks-row-user, HaveOtherMarks-row-object, HaveOtherMarks-row-grant}
use Rattle.scql_model.specs.Opens.{is_spelled}
use Rattle.record_table.specs.Editable.{IsEditable}
use Rattle.record_table.specs.TagLaws.{stamped-user, stamped-object, stamped-grant, stamped-row}
use Rattle.record_table.specs.Touching.{stamp_in}

-- one of five readers gives something
first : (a b c d e : Bool) → a ≡ true → a || b || c || d || e ≡ true
first a b c d e is = rw is refl

second : (a b c d e : Bool) → b ≡ true → a || b || c || d || e ≡ true
second true b c d e is = refl
second false b c d e is = rw is refl

third : (a b c d e : Bool) → c ≡ true → a || b || c || d || e ≡ true
third true b c d e is = refl
third false true c d e is = refl
third false false c d e is = rw is refl

fourth : (a b c d e : Bool) → d ≡ true → a || b || c || d || e ≡ true
fourth true b c d e is = refl
fourth false true c d e is = refl
fourth false false true d e is = refl
fourth false false false d e is = rw is refl

fifth : (a b c d e : Bool) → e ≡ true → a || b || c || d || e ≡ true
fifth true b c d e is = refl
fifth false true c d e is = refl
fifth false false true d e is = refl
fifth false false false true e is = refl
fifth false false false false e is = is

-- the octets of a record of a kind are spelled
pub spelled-counter : (octets : List ℕ) (next : ℕ) → counter_in octets ≡ Some next → is_spelled (Some octets) ≡ true
spelled-counter octets next read = first (is_some (counter_in octets)) (is_some (user_in octets)) (is_some (object_in octets)) (is_some (grant_in octets)) (is_some (row_in octets)) (ap (λ (o : Option ℕ). is_some o) read)

spelled-user : (octets : List ℕ) (x : User) → user_in octets ≡ Some x → is_spelled (Some octets) ≡ true
spelled-user octets x read = second (is_some (counter_in octets)) (is_some (user_in octets)) (is_some (object_in octets)) (is_some (grant_in octets)) (is_some (row_in octets)) (ap (λ (o : Option User). is_some o) read)

spelled-object : (octets : List ℕ) (x : Object) → object_in octets ≡ Some x → is_spelled (Some octets) ≡ true
spelled-object octets x read = third (is_some (counter_in octets)) (is_some (user_in octets)) (is_some (object_in octets)) (is_some (grant_in octets)) (is_some (row_in octets)) (ap (λ (o : Option Object). is_some o) read)

spelled-grant : (octets : List ℕ) (x : Grant) → grant_in octets ≡ Some x → is_spelled (Some octets) ≡ true
spelled-grant octets x read = fourth (is_some (counter_in octets)) (is_some (user_in octets)) (is_some (object_in octets)) (is_some (grant_in octets)) (is_some (row_in octets)) (ap (λ (o : Option Grant). is_some o) read)

spelled-row : (octets : List ℕ) (x : RowRecord) → row_in octets ≡ Some x → is_spelled (Some octets) ≡ true
spelled-row octets x read = fifth (is_some (counter_in octets)) (is_some (user_in octets)) (is_some (object_in octets)) (is_some (grant_in octets)) (is_some (row_in octets)) (ap (λ (o : Option RowRecord). is_some o) read)

-- octets that are a record of one kind are none of another
none-given : {X : Type 0} (o : Option X) → given o ≡ 0 → o ≡ None
none-given None is = refl
none-given (Some x) is = absurd (omega (arith, is))

-- so the stamp that octets have is that of the record which the kind's reader gives
pub named-counter : (octets : List ℕ) (next : ℕ) → counter_in octets ≡ Some next → stamp_in octets ≡ Some 0
named-counter octets next read = rw read refl

named-user : (octets : List ℕ) (x : User) → user_in octets ≡ Some x → stamp_in octets ≡ Some x.stamp
named-user octets x read =
    let most = one_kind octets in
    let here : given (user_in octets) ≡ 1 = ap given read in
    rw (none-given (counter_in octets) (omega (arith, most, here)), read) refl

named-object : (octets : List ℕ) (x : Object) → object_in octets ≡ Some x → stamp_in octets ≡ Some x.stamp
named-object octets x read =
    let most = one_kind octets in
    let here : given (object_in octets) ≡ 1 = ap given read in
    rw (none-given (counter_in octets) (omega (arith, most, here)), none-given (user_in octets) (omega (arith, most, here)), read) refl

named-grant : (octets : List ℕ) (x : Grant) → grant_in octets ≡ Some x → stamp_in octets ≡ Some x.stamp
named-grant octets x read =
    let most = one_kind octets in
    let here : given (grant_in octets) ≡ 1 = ap given read in
    rw (none-given (counter_in octets) (omega (arith, most, here)), none-given (user_in octets) (omega (arith, most, here)), none-given (object_in octets) (omega (arith, most, here)), read) refl

named-row : (octets : List ℕ) (x : RowRecord) → row_in octets ≡ Some x → stamp_in octets ≡ Some x.stamp
named-row octets x read =
    let most = one_kind octets in
    let here : given (row_in octets) ≡ 1 = ap given read in
    rw (
      none-given (counter_in octets) (omega (arith, most, here)),
      none-given (user_in octets) (omega (arith, most, here)),
      none-given (object_in octets) (omega (arith, most, here)),
      none-given (grant_in octets) (omega (arith, most, here)),
      read,
    ) refl

pub IsEditable-user : IsEditable user_kind of_user
IsEditable-user = record {
  named = named-user;
  stamped = stamped-user;
  lengths = length-user_in;
  spells = λ u. refl;
  stamps = λ u. refl;
  no_counter = λ u. refl;
  spelled = λ u fits. spelled-user (user_kind.form.spell u) u (IsKind-user.again u fits);
  records = λ db. db.users;
  held = λ slots db holds. holds.users;
  rises = λ db valid. valid.users.rises;
  below = λ db valid. below-of_kind stored_user [] (behind_users db) db.users (records_of-users db) valid.stored;
  limits = λ db valid. valid.users.limits;
  after = λ action u db. refl;
  holds = λ action u old new db holds others list. record {
    cells = others.cells ∙ holds.cells;
    spelled = others.spelled;
    counter = others.counter (HaveOtherMarks-sym counter_kind user_kind HaveOtherMarks-counter-user) ∙ holds.counter;
    users = list;
    objects = others.objects HaveOtherMarks-user-object ∙ holds.objects;
    grants = others.grants HaveOtherMarks-user-grant ∙ holds.grants;
    rows = others.rows (HaveOtherMarks-sym row_kind user_kind HaveOtherMarks-row-user) ∙ holds.rows;
  };
  weights = λ action u db. omega (arith, weight-kinds db, weight-kinds (edited action (of_user u) db));
  counts = λ action u next db. refl;
}

pub IsEditable-object : IsEditable object_kind of_object
IsEditable-object = record {
  named = named-object;
  stamped = stamped-object;
  lengths = length-object_in;
  spells = λ o. refl;
  stamps = λ o. refl;
  no_counter = λ o. refl;
  spelled = λ o fits. spelled-object (object_kind.form.spell o) o (IsKind-object.again o fits);
  records = λ db. db.objects;
  held = λ slots db holds. holds.objects;
  rises = λ db valid. valid.objects.rises;
  below = λ db valid. below-of_kind stored_object (before_objects db) (behind_objects db) db.objects (records_of-objects db) valid.stored;
  limits = λ db valid. valid.objects.limits;
  after = λ action o db. refl;
  holds = λ action o old new db holds others list. record {
    cells = others.cells ∙ holds.cells;
    spelled = others.spelled;
    counter = others.counter (HaveOtherMarks-sym counter_kind object_kind HaveOtherMarks-counter-object) ∙ holds.counter;
    users = others.users (HaveOtherMarks-sym user_kind object_kind HaveOtherMarks-user-object) ∙ holds.users;
    objects = list;
    grants = others.grants (HaveOtherMarks-sym grant_kind object_kind HaveOtherMarks-grant-object) ∙ holds.grants;
    rows = others.rows (HaveOtherMarks-sym row_kind object_kind HaveOtherMarks-row-object) ∙ holds.rows;
  };
  weights = λ action o db. omega (arith, weight-kinds db, weight-kinds (edited action (of_object o) db));
  counts = λ action o next db. refl;
}

pub IsEditable-grant : IsEditable grant_kind of_grant
IsEditable-grant = record {
  named = named-grant;
  stamped = stamped-grant;
  lengths = length-grant_in;
  spells = λ g. refl;
  stamps = λ g. refl;
  no_counter = λ g. refl;
  spelled = λ g fits. spelled-grant (grant_kind.form.spell g) g (IsKind-grant.again g fits);
  records = λ db. db.grants;
  held = λ slots db holds. holds.grants;
  rises = λ db valid. valid.grants.rises;
  below = λ db valid. below-of_kind stored_grant (before_grants db) (behind_grants db) db.grants (records_of-grants db) valid.stored;
  limits = λ db valid. valid.grants.limits;
  after = λ action g db. refl;
  holds = λ action g old new db holds others list. record {
    cells = others.cells ∙ holds.cells;
    spelled = others.spelled;
    counter = others.counter (HaveOtherMarks-sym counter_kind grant_kind HaveOtherMarks-counter-grant) ∙ holds.counter;
    users = others.users (HaveOtherMarks-sym user_kind grant_kind HaveOtherMarks-user-grant) ∙ holds.users;
    objects = others.objects HaveOtherMarks-grant-object ∙ holds.objects;
    grants = list;
    rows = others.rows (HaveOtherMarks-sym row_kind grant_kind HaveOtherMarks-row-grant) ∙ holds.rows;
  };
  weights = λ action g db. omega (arith, weight-kinds db, weight-kinds (edited action (of_grant g) db));
  counts = λ action g next db. refl;
}

pub IsEditable-row : IsEditable row_kind of_row
IsEditable-row = record {
  named = named-row;
  stamped = stamped-row;
  lengths = length-row_in;
  spells = λ r. refl;
  stamps = λ r. refl;
  no_counter = λ r. refl;
  spelled = λ r fits. spelled-row (row_kind.form.spell r) r (IsKind-row.again r fits);
  records = λ db. db.rows;
  held = λ slots db holds. holds.rows;
  rises = λ db valid. valid.rows.rises;
  below = λ db valid. below-of_kind stored_row (before_rows db) [] db.rows (records_of-rows db) valid.stored;
  limits = λ db valid. valid.rows.limits;
  after = λ action r db. refl;
  holds = λ action r old new db holds others list. record {
    cells = others.cells ∙ holds.cells;
    spelled = others.spelled;
    counter = others.counter HaveOtherMarks-row-counter ∙ holds.counter;
    users = others.users HaveOtherMarks-row-user ∙ holds.users;
    objects = others.objects HaveOtherMarks-row-object ∙ holds.objects;
    grants = others.grants HaveOtherMarks-row-grant ∙ holds.grants;
    rows = list;
  };
  weights = λ action r db. omega (arith, weight-kinds db, weight-kinds (edited action (of_row r) db));
  counts = λ action r next db. refl;
}
