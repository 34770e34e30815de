-- A database is valid exactly where its records are within their limits and pass the test.
use Rattle.std.proofs.Common.{◌≡◌, ℕ, ◌+◌, ◌≤◌, ◌==◌, Bool, true, false, cond, not, ◌&&◌, List, [], ◌∷◌, ◌++◌, map, filter, refl, sym, ap, subst, ◌∙◌, inl, inr, arith}
use Rattle.std.specs.Prelude.{nat_le}
use Rattle.std.specs.List.{list_all, list_any, count_by}
use Rattle.std.specs.Str.{bytes_eq}
use Rattle.std.proofs.lemmas.Bool.{cases_Bool, and_parts, and_from, not-true, false≢true, leb-true, le-leb}
use Rattle.std.proofs.lemmas.List.Folds.{list_all-map, list_all-append}
use Rattle.std.proofs.lemmas.List.Sums.{sum_by-append}
use Rattle.eeprom.specs.Slots.{Rises, AreApart, has}
use Rattle.eeprom.proofs.InOrder.{AreApart-rising, count_by-cons}
use Rattle.scql_base.specs.declared.records.User.{User}
use Rattle.scql_base.specs.declared.records.Object.{Object}
use Rattle.scql_base.specs.declared.records.Grant.{Grant}
use Rattle.scql_base.specs.declared.records.RowRecord.{RowRecord}
use Rattle.scql_base.specs.Name.{is_name}
use Rattle.scql_model.specs.Records.{user_record, object_fits, grant_record, row_record, is_secret}
use Rattle.scql_model.specs.Stored.{StoredRecord, IsStored, is_storable, is_given_out}
use Rattle.scql_model.specs.Rules.{AreUsers, AreObjects, AreGrants, AreRows, public_name, are_different, are_apart_by, is_db_o, is_made_by_maker, has_maker, has_all_tries, is_founded, is_short, has_object_and_grantee, is_of_pair, has_table, is_within_limit}
use Rattle.scql_model.specs.Database.{Database, IsValid, stored_user, stored_object, stored_grant, stored_row, records_of, counter_cells}
use Rattle.scql_model.proofs.LongerLists.{all-weaker, all-by_both}
use Rattle.scql_model.proofs.Creating.{user-short}
use Rattle.scql_model.proofs.RecordLengths.{storable-object, storable-grant, storable-row}
use Rattle.card.specs.declared.kept_record.KeptRecord.{KeptRecord}
use Rattle.card.specs.declared.kept_record.KeptRecord.TheVariants as kept_as
use Rattle.card.specs.KeptRecords.{AreRecordsOf, stamp_of, as_user, as_object, as_grant, as_row, users_in, objects_in, grants_in, rows_in}
use Rattle.card.specs.Validity.{HasFittingRecords, is_owner_alone, is_stamp_before, is_right_user, is_right_object, are_valid_users, are_valid_objects, are_valid_grants, are_valid_rows, is_valid_database}
use Rattle.card.proofs.OfKinds.{user-stamp, object-stamp, grant-stamp, row-stamp}
use Rattle.card.proofs.OwnerSearch.{owner_alone-is}
use Rattle.card.proofs.Stamped.{Rises-kind}

-- Lists.

all-both : {X : Type 0} (p q : X → Bool) (xs : List X) → list_all p xs ≡ true → list_all q xs ≡ true → list_all (λ x. p x && q x) xs ≡ true
all-both p q xs one other = all-by_both p q (λ x. p x && q x) xs (λ x a b. and_from (p x) (q x) a b) one other

none-all : {X : Type 0} (p : X → Bool) (xs : List X) → list_all (λ x. not (p x)) xs ≡ true → list_any p xs ≡ false
none-all p [] all = refl
none-all p (x ∷ xs) all =
    let parts = and_parts (not (p x)) (list_all (λ x. not (p x)) xs) all in
    rw (not-true (p x) parts.0) (none-all p xs parts.1)

all-none : {X : Type 0} (p : X → Bool) (xs : List X) → list_any p xs ≡ false → list_all (λ x. not (p x)) xs ≡ true
all-none p [] none = refl
all-none p (x ∷ xs) none =
    elim (cases_Bool (p x)) [ inl t ↦ absurd (false≢true (sym (rw t at none))) | inr f ↦ rw f (all-none p xs (rw f at none)) ]

user-storable : (u : User) → user_record.fits u ≡ true → is_storable (stored_user u) ≡ true
user-storable u fits = user-short u (parts u fits).0 (parts u fits).1
  where
    parts : (u : User) → user_record.fits u ≡ true → (is_name u.name ≡ true) × (is_secret u.secret ≡ true)
    parts u fits = grind (arith, and_parts)

-- The test, of a database's records.
abbrev passes : Database → Bool
passes db = is_valid_database db.next db.users db.objects db.grants db.rows

pub tested-database : (db : Database) (records : List KeptRecord) → AreRecordsOf db records → is_valid_database db.next (users_in records) (objects_in records) (grants_in records) (rows_in records) ≡ passes db
tested-database db records s = rw (s.users, s.objects, s.grants, s.rows) refl

-- No two records have one stamp.
pub count-map : {X Y : Type 0} (p : Y → Bool) (f : X → Y) (xs : List X) → count_by p (map f xs) ≡ count_by (λ x. p (f x)) xs
count-map p f [] = refl
count-map p f (x ∷ xs) = count_by-cons p (f x) (map f xs) ∙ ap (λ (n : ℕ). cond (p (f x)) 1 0 + n) (count-map p f xs) ∙ sym (count_by-cons (λ x. p (f x)) x xs)

count-append : {X : Type 0} (p : X → Bool) (xs ys : List X) → count_by p (xs ++ ys) ≡ count_by p xs + count_by p ys
count-append p xs ys = sum_by-append (λ x. cond (p x) 1 0) xs ys

-- how many of each kind have a stamp
abbrev pub users_at : ℕ → List User → ℕ
users_at k = count_by (λ (u : User). u.stamp == k)

abbrev pub objects_at : ℕ → List Object → ℕ
objects_at k = count_by (λ (o : Object). o.stamp == k)

abbrev pub grants_at : ℕ → List Grant → ℕ
grants_at k = count_by (λ (g : Grant). g.stamp == k)

abbrev pub rows_at : ℕ → List RowRecord → ℕ
rows_at k = count_by (λ (r : RowRecord). r.stamp == k)

count-kinds : (k : ℕ) (records : List KeptRecord) → count_by (has stamp_of k) records ≡ users_at k (users_in records) + (objects_at k (objects_in records) + (grants_at k (grants_in records) + rows_at k (rows_in records)))
count-kinds k [] = refl
count-kinds k (kept_as.User u ∷ records) =
    let a = count_by-cons (has stamp_of k) (kept_as.User u) records in
    let b = count_by-cons (λ (v : User). v.stamp == k) u (users_in records) in
    let c = count-kinds k records in
    omega arith
count-kinds k (kept_as.Object o ∷ records) =
    let a = count_by-cons (has stamp_of k) (kept_as.Object o) records in
    let b = count_by-cons (λ (v : Object). v.stamp == k) o (objects_in records) in
    let c = count-kinds k records in
    omega arith
count-kinds k (kept_as.Grant g ∷ records) =
    let a = count_by-cons (has stamp_of k) (kept_as.Grant g) records in
    let b = count_by-cons (λ (v : Grant). v.stamp == k) g (grants_in records) in
    let c = count-kinds k records in
    omega arith
count-kinds k (kept_as.Row slot r ∷ records) =
    let a = count_by-cons (has stamp_of k) (kept_as.Row slot r) records in
    let b = count_by-cons (λ (v : RowRecord). v.stamp == k) r (rows_in records) in
    let c = count-kinds k records in
    omega arith

abbrev stored_at : ℕ → StoredRecord → Bool
stored_at k r = r.stamp == k

count-stored : (k : ℕ) (db : Database) → count_by (stored_at k) (records_of db) ≡ users_at k db.users + (objects_at k db.objects + (grants_at k db.grants + rows_at k db.rows))
count-stored k db =
    let us = map stored_user db.users in
    let os = map stored_object db.objects in
    let gs = map stored_grant db.grants in
    let rs = map stored_row db.rows in
    let a : count_by (stored_at k) (records_of db) ≡ count_by (stored_at k) us + count_by (stored_at k) (os ++ (gs ++ rs)) = count-append (stored_at k) us (os ++ (gs ++ rs)) in
    let b : count_by (stored_at k) (os ++ (gs ++ rs)) ≡ count_by (stored_at k) os + count_by (stored_at k) (gs ++ rs) = count-append (stored_at k) os (gs ++ rs) in
    let c : count_by (stored_at k) (gs ++ rs) ≡ count_by (stored_at k) gs + count_by (stored_at k) rs = count-append (stored_at k) gs rs in
    let d : count_by (stored_at k) (map stored_user db.users) ≡ users_at k db.users = count-map (stored_at k) stored_user db.users in
    let e : count_by (stored_at k) (map stored_object db.objects) ≡ objects_at k db.objects = count-map (stored_at k) stored_object db.objects in
    let f : count_by (stored_at k) (map stored_grant db.grants) ≡ grants_at k db.grants = count-map (stored_at k) stored_grant db.grants in
    let g : count_by (stored_at k) (map stored_row db.rows) ≡ rows_at k db.rows = count-map (stored_at k) stored_row db.rows in
    omega arith

stored-apart : (db : Database) (records : List KeptRecord) → AreRecordsOf db records → AreApart (λ (r : StoredRecord). r.stamp) (records_of db)
stored-apart db records s = λ k.
    let few : count_by (has stamp_of k) records ≤ 1 = AreApart-rising stamp_of records s.rises k in
    let kinds = count-kinds k records in
    let all = count-stored k db in
    let users : users_at k (users_in records) ≡ users_at k db.users = ap (users_at k) s.users in
    let objects : objects_at k (objects_in records) ≡ objects_at k db.objects = ap (objects_at k) s.objects in
    let grants : grants_at k (grants_in records) ≡ grants_at k db.grants = ap (grants_at k) s.grants in
    let rows : rows_at k (rows_in records) ≡ rows_at k db.rows = ap (rows_at k) s.rows in
    omega arith

-- A test of all records as they are stored.
all-stored : (p : StoredRecord → Bool) (db : Database) → list_all (λ (u : User). p (stored_user u)) db.users ≡ true → list_all (λ (o : Object). p (stored_object o)) db.objects ≡ true
    → list_all (λ (g : Grant). p (stored_grant g)) db.grants ≡ true → list_all (λ (r : RowRecord). p (stored_row r)) db.rows ≡ true → list_all p (records_of db) ≡ true
all-stored p db users objects grants rows =
    list_all-append p (map stored_user db.users) (map stored_object db.objects ++ (map stored_grant db.grants ++ map stored_row db.rows))
    ∙ and_from _ _ (list_all-map p stored_user db.users ∙ users)
    (list_all-append p (map stored_object db.objects) (map stored_grant db.grants ++ map stored_row db.rows)
    ∙ and_from _ _ (list_all-map p stored_object db.objects ∙ objects)
    (list_all-append p (map stored_grant db.grants) (map stored_row db.rows) ∙ and_from _ _ (list_all-map p stored_grant db.grants ∙ grants) (list_all-map p stored_row db.rows ∙ rows)))

-- and of those of each kind
record AllKinds (p : StoredRecord → Bool) (db : Database) : Type 0 where
  users : list_all (λ (u : User). p (stored_user u)) db.users ≡ true
  objects : list_all (λ (o : Object). p (stored_object o)) db.objects ≡ true
  grants : list_all (λ (g : Grant). p (stored_grant g)) db.grants ≡ true
  rows : list_all (λ (r : RowRecord). p (stored_row r)) db.rows ≡ true

each-stored : (p : StoredRecord → Bool) (db : Database) → list_all p (records_of db) ≡ true → AllKinds p db
each-stored p db all =
    let us = map stored_user db.users in
    let os = map stored_object db.objects in
    let gs = map stored_grant db.grants in
    let rs = map stored_row db.rows in
    let a = and_parts (list_all p us) (list_all p (os ++ (gs ++ rs))) (sym (list_all-append p us (os ++ (gs ++ rs))) ∙ all) in
    let b = and_parts (list_all p os) (list_all p (gs ++ rs)) (sym (list_all-append p os (gs ++ rs)) ∙ a.1) in
    let c = and_parts (list_all p gs) (list_all p rs) (sym (list_all-append p gs rs) ∙ b.1) in record {
      users = sym (list_all-map p stored_user db.users) ∙ a.0;
      objects = sym (list_all-map p stored_object db.objects) ∙ b.0;
      grants = sym (list_all-map p stored_grant db.grants) ∙ c.0;
      rows = sym (list_all-map p stored_row db.rows) ∙ c.1;
    }

-- the records are stored where each is within its limits
stored-within : (db : Database) (records : List KeptRecord) → AreRecordsOf db records → HasFittingRecords db → list_all (is_given_out db.next) (records_of db) ≡ true → IsStored db.cells (counter_cells db) db.next (records_of db)
stored-within db records s within given = record {
  room = within.room;
  lengths = all-stored is_storable db (all-weaker user_record.fits (λ (u : User). is_storable (stored_user u)) db.users user-storable within.users)
      (all-weaker is_short (λ (o : Object). is_storable (stored_object o)) db.objects storable-object within.object_lengths)
      (all-weaker grant_record.fits (λ (g : Grant). is_storable (stored_grant g)) db.grants (λ g fits. storable-grant g) within.grants)
      (all-weaker row_record.fits (λ (r : RowRecord). is_storable (stored_row r)) db.rows storable-row within.rows);
  stamped = given;
  apart = stored-apart db records s;
}

-- the records of each kind rise
users-rise : (db : Database) (records : List KeptRecord) → AreRecordsOf db records → Rises (λ (u : User). u.stamp) db.users
users-rise db records s = subst (Rises (λ (u : User). u.stamp)) s.users (Rises-kind stamp_of (λ (u : User). u.stamp) as_user user-stamp records s.rises)

objects-rise : (db : Database) (records : List KeptRecord) → AreRecordsOf db records → Rises (λ (o : Object). o.stamp) db.objects
objects-rise db records s = subst (Rises (λ (o : Object). o.stamp)) s.objects (Rises-kind stamp_of (λ (o : Object). o.stamp) as_object object-stamp records s.rises)

grants-rise : (db : Database) (records : List KeptRecord) → AreRecordsOf db records → Rises (λ (g : Grant). g.stamp) db.grants
grants-rise db records s = subst (Rises (λ (g : Grant). g.stamp)) s.grants (Rises-kind stamp_of (λ (g : Grant). g.stamp) as_grant grant-stamp records s.rises)

rows-rise : (db : Database) (records : List KeptRecord) → AreRecordsOf db records → Rises (λ (r : RowRecord). r.stamp) db.rows
rows-rise db records s = subst (Rises (λ (r : RowRecord). r.stamp)) s.rows (Rises-kind stamp_of (λ (r : RowRecord). r.stamp) as_row row-stamp records s.rises)

users-valid : (next : ℕ) (users : List User) → Rises (λ (u : User). u.stamp) users → list_all user_record.fits users ≡ true → are_valid_users next users ≡ true → AreUsers users
users-valid next users rises limits valid =
    let a = and_parts (list_all (λ (u : User). is_stamp_before next u.stamp && is_right_user users u) users && is_owner_alone (filter is_db_o users)) (are_different (map (λ (u : User). u.name) users)) valid in
    let b = and_parts (list_all (λ (u : User). is_stamp_before next u.stamp && is_right_user users u) users) (is_owner_alone (filter is_db_o users)) a.0 in
    let right = λ (u : User) (h : is_stamp_before next u.stamp && is_right_user users u ≡ true). (and_parts (is_stamp_before next u.stamp) (is_right_user users u) h).1 in
    let named = λ (u : User) (h : is_stamp_before next u.stamp && is_right_user users u ≡ true). and_parts (not (bytes_eq public_name u.name) && has_maker users u) (has_all_tries u) (right u h) in
    let made = λ (u : User) (h : is_stamp_before next u.stamp && is_right_user users u ≡ true). and_parts (not (bytes_eq public_name u.name)) (has_maker users u) (named u h).0 in
    let rule = all-weaker (λ (u : User). is_stamp_before next u.stamp && is_right_user users u) in record {
      rises = rises;
      limits = limits;
      owner = owner_alone-is (filter is_db_o users) b.1;
      names = a.1;
      none_public = none-all (λ (u : User). bytes_eq public_name u.name) users (rule (λ (u : User). not (bytes_eq public_name u.name)) users (λ u h. (made u h).0) b.0);
      makers = rule (has_maker users) users (λ u h. (made u h).1) b.0;
      tries = rule has_all_tries users (λ u h. (named u h).1) b.0;
    }

valid-users : (next : ℕ) (users : List User) → AreUsers users → list_all (λ (u : User). is_stamp_before next u.stamp) users ≡ true → are_valid_users next users ≡ true
valid-users next users is stamps =
    let public = all-none (λ (u : User). bytes_eq public_name u.name) users is.none_public in
    let made = all-both (λ (u : User). not (bytes_eq public_name u.name)) (has_maker users) users public is.makers in
    let right = all-both (λ (u : User). not (bytes_eq public_name u.name) && has_maker users u) has_all_tries users made is.tries in
    let each = all-both (λ (u : User). is_stamp_before next u.stamp) (is_right_user users) users stamps right in
    rw (each, is.owner, is.names) refl

objects-valid : (next : ℕ) (users : List User) (objects : List Object) → Rises (λ (o : Object). o.stamp) objects → list_all object_fits objects ≡ true → list_all is_short objects ≡ true → are_valid_objects next users objects ≡ true
    → AreObjects users objects
objects-valid next users objects rises limits lengths valid =
    let one = λ (o : Object). is_stamp_before next o.stamp && is_right_object users objects o in
    let a = and_parts (list_all one objects) (are_different (map (λ (o : Object). o.name) objects)) valid in
    let right = λ (o : Object) (h : one o ≡ true). and_parts (is_made_by_maker users o.owner) (is_founded objects o) (and_parts (is_stamp_before next o.stamp) (is_right_object users objects o) h).1 in record {
      rises = rises;
      limits = limits;
      lengths = lengths;
      names = a.1;
      makers = all-weaker one (λ (o : Object). is_made_by_maker users o.owner) objects (λ o h. (right o h).0) a.0;
      founded = all-weaker one (is_founded objects) objects (λ o h. (right o h).1) a.0;
    }

valid-objects : (next : ℕ) (users : List User) (objects : List Object) → AreObjects users objects → list_all (λ (o : Object). is_stamp_before next o.stamp) objects ≡ true → are_valid_objects next users objects ≡ true
valid-objects next users objects are stamps =
    let right = all-both (λ (o : Object). is_made_by_maker users o.owner) (is_founded objects) objects are.makers are.founded in
    and_from (list_all (λ (o : Object). is_stamp_before next o.stamp && is_right_object users objects o) objects) (are_different (map (λ (o : Object). o.name) objects))
    (all-both (λ (o : Object). is_stamp_before next o.stamp) (is_right_object users objects) objects stamps right) are.names

grants-valid : (next : ℕ) (users : List User) (objects : List Object) (grants : List Grant) → Rises (λ (g : Grant). g.stamp) grants → list_all grant_record.fits grants ≡ true → are_valid_grants next users objects grants ≡ true
    → AreGrants users objects grants
grants-valid next users objects grants rises limits valid =
    let one = λ (g : Grant). is_stamp_before next g.stamp && has_object_and_grantee users objects g in
    let a = and_parts (list_all one grants) (are_apart_by is_of_pair grants) valid in record {
      rises = rises;
      limits = limits;
      parties = all-weaker one (has_object_and_grantee users objects) grants (λ g h. (and_parts (is_stamp_before next g.stamp) (has_object_and_grantee users objects g) h).1) a.0;
      pairs = a.1;
    }

valid-grants : (next : ℕ) (users : List User) (objects : List Object) (grants : List Grant) → AreGrants users objects grants → list_all (λ (g : Grant). is_stamp_before next g.stamp) grants ≡ true
    → are_valid_grants next users objects grants ≡ true
valid-grants next users objects grants are stamps =
    and_from (list_all (λ (g : Grant). is_stamp_before next g.stamp && has_object_and_grantee users objects g) grants) (are_apart_by is_of_pair grants)
    (all-both (λ (g : Grant). is_stamp_before next g.stamp) (has_object_and_grantee users objects) grants stamps are.parties) are.pairs

rows-valid : (next limit : ℕ) (objects : List Object) (rows : List RowRecord) → Rises (λ (r : RowRecord). r.stamp) rows → list_all row_record.fits rows ≡ true → list_all (is_within_limit limit) rows ≡ true
    → are_valid_rows next objects rows ≡ true → AreRows limit objects rows
rows-valid next limit objects rows rises limits lengths valid = record {
  rises = rises;
  limits = limits;
  lengths = lengths;
  tables = all-weaker (λ (r : RowRecord). is_stamp_before next r.stamp && has_table objects r) (has_table objects) rows (λ r h. (and_parts (is_stamp_before next r.stamp) (has_table objects r) h).1) valid;
}

valid-rows : (next limit : ℕ) (objects : List Object) (rows : List RowRecord) → AreRows limit objects rows → list_all (λ (r : RowRecord). is_stamp_before next r.stamp) rows ≡ true → are_valid_rows next objects rows ≡ true
valid-rows next limit objects rows are stamps = all-both (λ (r : RowRecord). is_stamp_before next r.stamp) (has_table objects) rows stamps are.tables

-- the parts of the test
record Passes (db : Database) : Type 0 where
  next : nat_le 2 db.next ≡ true
  users : are_valid_users db.next db.users ≡ true
  objects : are_valid_objects db.next db.users db.objects ≡ true
  grants : are_valid_grants db.next db.users db.objects db.grants ≡ true
  rows : are_valid_rows db.next db.objects db.rows ≡ true

each-passes : (db : Database) → passes db ≡ true → Passes db
each-passes db passed =
    let a = and_parts (nat_le 2 db.next && are_valid_users db.next db.users && are_valid_objects db.next db.users db.objects && are_valid_grants db.next db.users db.objects db.grants) (are_valid_rows db.next db.objects db.rows) passed in
    let b = and_parts (nat_le 2 db.next && are_valid_users db.next db.users && are_valid_objects db.next db.users db.objects) (are_valid_grants db.next db.users db.objects db.grants) a.0 in
    let c = and_parts (nat_le 2 db.next && are_valid_users db.next db.users) (are_valid_objects db.next db.users db.objects) b.0 in
    let d = and_parts (nat_le 2 db.next) (are_valid_users db.next db.users) c.0 in
    record { next = d.0; users = d.1; objects = c.1; grants = b.1; rows = a.1 }

-- all stamps were given out
first-of-both : {X : Type 0} (p q : X → Bool) (xs : List X) → list_all (λ x. p x && q x) xs ≡ true → list_all p xs ≡ true
first-of-both p q xs all = all-weaker (λ x. p x && q x) p xs (λ x h. (and_parts (p x) (q x) h).0) all

stamps-given : (db : Database) → Passes db → list_all (is_given_out db.next) (records_of db) ≡ true
stamps-given db passed =
    let users = and_parts (list_all (λ (u : User). is_stamp_before db.next u.stamp && is_right_user db.users u) db.users && is_owner_alone (filter is_db_o db.users)) (are_different (map (λ (u : User). u.name) db.users)) passed.users in
    let user = and_parts (list_all (λ (u : User). is_stamp_before db.next u.stamp && is_right_user db.users u) db.users) (is_owner_alone (filter is_db_o db.users)) users.0 in
    let objects = and_parts (list_all (λ (o : Object). is_stamp_before db.next o.stamp && is_right_object db.users db.objects o) db.objects) (are_different (map (λ (o : Object). o.name) db.objects)) passed.objects in
    let grants = and_parts (list_all (λ (g : Grant). is_stamp_before db.next g.stamp && has_object_and_grantee db.users db.objects g) db.grants) (are_apart_by is_of_pair db.grants) passed.grants in
    all-stored (is_given_out db.next) db
    (first-of-both (λ (u : User). is_stamp_before db.next u.stamp) (is_right_user db.users) db.users user.0)
    (first-of-both (λ (o : Object). is_stamp_before db.next o.stamp) (is_right_object db.users db.objects) db.objects objects.0)
    (first-of-both (λ (g : Grant). is_stamp_before db.next g.stamp) (has_object_and_grantee db.users db.objects) db.grants grants.0)
    (first-of-both (λ (r : RowRecord). is_stamp_before db.next r.stamp) (has_table db.objects) db.rows passed.rows)

-- Records that are within their limits and pass the test make a valid database.
pub IsValid-tested : (db : Database) (records : List KeptRecord) → AreRecordsOf db records → HasFittingRecords db
    → is_valid_database db.next (users_in records) (objects_in records) (grants_in records) (rows_in records) ≡ true → IsValid db
IsValid-tested db records s within tested =
    let passed = each-passes db (sym (tested-database db records s) ∙ tested) in record {
      cells = within.cells;
      limit = within.limit;
      next = leb-true 2 db.next passed.next;
      counter = within.counter;
      stored = stored-within db records s within (stamps-given db passed);
      users = users-valid db.next db.users (users-rise db records s) within.users passed.users;
      objects = objects-valid db.next db.users db.objects (objects-rise db records s) within.objects within.object_lengths passed.objects;
      grants = grants-valid db.next db.users db.objects db.grants (grants-rise db records s) within.grants passed.grants;
      rows = rows-valid db.next db.limit db.objects db.rows (rows-rise db records s) within.rows within.lengths passed.rows;
    }

-- The records of a valid database are within their limits and pass the test.
pub HasFittingRecords-valid : (db : Database) → IsValid db → HasFittingRecords db
HasFittingRecords-valid db valid = record {
  cells = valid.cells;
  limit = valid.limit;
  room = valid.stored.room;
  counter = valid.counter;
  users = valid.users.limits;
  objects = valid.objects.limits;
  object_lengths = valid.objects.lengths;
  grants = valid.grants.limits;
  rows = valid.rows.limits;
  lengths = valid.rows.lengths;
}

pub tested-IsValid : (db : Database) (records : List KeptRecord) → AreRecordsOf db records → IsValid db → is_valid_database db.next (users_in records) (objects_in records) (grants_in records) (rows_in records) ≡ true
tested-IsValid db records s valid =
    let stamps = each-stored (is_given_out db.next) db valid.stored.stamped in
    tested-database db records s
    ∙ rw (le-leb 2 db.next valid.next, valid-users db.next db.users valid.users stamps.users, valid-objects db.next db.users db.objects valid.objects stamps.objects, valid-grants db.next db.users db.objects db.grants valid.grants stamps.grants)
    (valid-rows db.next db.limit db.objects db.rows valid.rows stamps.rows)

-- No two records of a valid database have one stamp, where those of each kind have each stamp as often as its own have.
pub valid-apart : (db : Database) (records : List KeptRecord) → IsValid db → ((k : ℕ) → users_at k (users_in records) ≡ users_at k db.users) → ((k : ℕ) → objects_at k (objects_in records) ≡ objects_at k db.objects)
    → ((k : ℕ) → grants_at k (grants_in records) ≡ grants_at k db.grants) → ((k : ℕ) → rows_at k (rows_in records) ≡ rows_at k db.rows) → AreApart stamp_of records
valid-apart db records valid users objects grants rows = λ k.
    let few : count_by (stored_at k) (records_of db) ≤ 1 = valid.stored.apart k in
    let all = count-stored k db in
    let kinds = count-kinds k records in
    let a = users k in
    let b = objects k in
    let c = grants k in
    let d = rows k in
    omega arith
