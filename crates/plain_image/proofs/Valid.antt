-- A database is valid exactly where its records are within their limits, have room and meet the rules.
use Rattle.std.proofs.Common.{◌≡◌, ℕ, ◌<◌, ◌≤◌, ◌==◌, Bool, true, false, not, ◌&&◌, ◌||◌, List, [], ◌∷◌, ◌++◌, map, filter, nat_le, nat_lt, refl, sym, ap, ap₂, ◌∙◌, inl, inr, arith, append_assoc}
use Rattle.std.specs.List.{list_all, list_any, count_by, AllByRecursion}
use Rattle.std.specs.Str.{bytes_eq}
use Rattle.std.proofs.lemmas.Bool.{cases_Bool, and_parts, and_from, not-true, false≢true, leb-true, le-leb, ltb-true, lt-ltb, eqb-true, eqb-false, eq-eqb, ne_eqb}
use Rattle.std.proofs.lemmas.List.Folds.{list_all-map, list_all-append}
use Rattle.eeprom.specs.StoreOf.{Slots, fewest_cells, most_cells, is_distinct}
use Rattle.eeprom.specs.Slots.{Rises, AreApart, has}
use Rattle.eeprom.proofs.InOrder.{count_by-cons, counts, counts_not}
use Rattle.scql_base.specs.declared.records.User.{User}
use Rattle.scql_base.specs.declared.records.Object.{Object}
use Rattle.scql_base.specs.declared.records.Grant.{Grant}
use Rattle.scql_base.specs.declared.records.RowRecord.{RowRecord}
use Rattle.scql_base.specs.declared.row.TheConstants.Row.{LARGEST, LARGEST_UNMIGRATED}
use Rattle.scql_model.specs.Records.{counter_record, user_record, object_fits, grant_record, row_record}
use Rattle.scql_model.specs.Stored.{StoredRecord, IsStored, is_storable}
use Rattle.scql_model.specs.Rules.{AreUsers, AreObjects, AreGrants, AreRows, public_name, are_apart_by, is_db_o, is_made_by_maker, has_maker, has_all_tries, is_founded, is_short, has_object_and_grantee, is_of_pair, has_table, is_within_limit}
use Rattle.scql_model.specs.Database.{Database, IsValid, stored_user, stored_object, stored_grant, stored_row, records_of, counter_cells, weight}
use Rattle.scql_model.specs.Opens.{Holds}
use Rattle.scql_model.proofs.Apart.{apart_by-map}
use Rattle.scql_model.proofs.LongerLists.{all-weaker, all-by_both}
use Rattle.scql_model.proofs.RecordLengths.{storable-user, storable-object, storable-grant, storable-row}
use Rattle.plain_image.specs.Found.{AreWithin}
use Rattle.plain_image.specs.Rules.{are_namesakes, are_objects_of_one_name, are_right_grants, are_right_objects, are_right_rows, are_right_stamps, are_right_users, has_right_numbers, is_owner_alone, is_right_object, is_right_row, is_right_user, is_stamp_before, meets_rules, rise_by, stamps_of_kinds}
use Rattle.plain_image.proofs.OwnerFound.{owner_alone-is}

-- Lists.

all-both : {X : Type 0} (p q : X → Bool) (xs : List X) → list_all p xs ≡ true → list_all q xs ≡ true → list_all (λ x. p x && q x) xs ≡ true
all-both p q xs one other = all-by_both p q (λ x. p x && q x) xs (λ x a b. and_from (p x) (q x) a b) one other

none-all : {X : Type 0} (p : X → Bool) (xs : List X) → list_all (λ x. not (p x)) xs ≡ true → list_any p xs ≡ false
none-all p [] all = refl
none-all p (x ∷ xs) all =
    let parts = and_parts (not (p x)) (list_all (λ x. not (p x)) xs) all in
    rw (not-true (p x) parts.0) (none-all p xs parts.1)

all-none : {X : Type 0} (p : X → Bool) (xs : List X) → list_any p xs ≡ false → list_all (λ x. not (p x)) xs ≡ true
all-none p [] none = refl
all-none p (x ∷ xs) none =
    elim (cases_Bool (p x)) [ inl t ↦ absurd (false≢true (sym (rw t at none))) | inr f ↦ rw f (all-none p xs (rw f at none)) ]

-- Keys that rise.

above-test : {X : Type 0} (key : X → ℕ) (k : ℕ) (xs : List X) → list_all (λ y. nat_lt k (key y)) xs ≡ true → AllByRecursion (λ y. k < key y) xs
above-test key k [] all = tt
above-test key k (y ∷ ys) all =
    let parts = and_parts (nat_lt k (key y)) (list_all (λ y. nat_lt k (key y)) ys) all in
    (ltb-true k (key y) parts.0, above-test key k ys parts.1)

test-above : {X : Type 0} (key : X → ℕ) (k : ℕ) (xs : List X) → AllByRecursion (λ y. k < key y) xs → list_all (λ y. nat_lt k (key y)) xs ≡ true
test-above key k [] all = refl
test-above key k (y ∷ ys) all = rw (lt-ltb k (key y) all.0) (test-above key k ys all.1)

rises-test : {X : Type 0} (key : X → ℕ) (xs : List X) → rise_by key xs ≡ true → Rises key xs
rises-test key [] is = tt
rises-test key (x ∷ xs) is =
    let parts = and_parts (list_all (λ y. nat_lt (key x) (key y)) xs) (rise_by key xs) is in
    (above-test key (key x) xs parts.0, rises-test key xs parts.1)

test-rises : {X : Type 0} (key : X → ℕ) (xs : List X) → Rises key xs → rise_by key xs ≡ true
test-rises key [] is = refl
test-rises key (x ∷ xs) is = and_from (list_all (λ y. nat_lt (key x) (key y)) xs) (rise_by key xs) (test-above key (key x) xs is.0) (test-rises key xs is.1)

-- Stamps that stand once.

none-counted : {X : Type 0} (key : X → ℕ) (k : ℕ) (xs : List X) → list_any (λ y. k == y) (map key xs) ≡ false → count_by (has key k) xs ≡ 0
none-counted key k [] none = refl
none-counted key k (x ∷ xs) none =
    elim (cases_Bool (k == key x)) [
      | inl t ↦ absurd (false≢true (sym (rw t at none)))
      | inr f ↦ (let other : has key k x ≡ false = ne_eqb (key x) k (λ e. eqb-false k (key x) f (sym e)) in
          counts_not (has key k) x xs other ∙ none-counted key k xs (rw f at none))
    ]

counted-none : {X : Type 0} (key : X → ℕ) (k : ℕ) (xs : List X) → count_by (has key k) xs ≡ 0 → list_any (λ y. k == y) (map key xs) ≡ false
counted-none key k [] none = refl
counted-none key k (x ∷ xs) none =
    elim (cases_Bool (has key k x)) [
      | inl t ↦ absurd (let one = counts (has key k) x xs t in omega arith)
      | inr f ↦ rw (ne_eqb k (key x) (λ e. eqb-false (key x) k f (sym e))) (counted-none key k xs (sym (counts_not (has key k) x xs f) ∙ none))
    ]

distinct-apart : {X : Type 0} (key : X → ℕ) (xs : List X) → is_distinct (map key xs) ≡ true → AreApart key xs
distinct-apart key [] is k = omega arith
distinct-apart key (x ∷ xs) is k =
    let parts = and_parts (not (list_any (λ y. key x == y) (map key xs))) (is_distinct (map key xs)) is in
    elim (cases_Bool (has key k x)) [
      | inl t ↦ (let same : key x ≡ k = eqb-true (key x) k t in
          let none : count_by (has key k) xs ≡ 0 = ap (λ (i : ℕ). count_by (has key i) xs) (sym same) ∙ none-counted key (key x) xs (not-true (list_any (λ y. key x == y) (map key xs)) parts.0) in
          let one = counts (has key k) x xs t in
          omega arith)
      | inr f ↦ (let rest = counts_not (has key k) x xs f in let few = distinct-apart key xs parts.1 k in omega arith)
    ]

apart-distinct : {X : Type 0} (key : X → ℕ) (xs : List X) → AreApart key xs → is_distinct (map key xs) ≡ true
apart-distinct key [] apart = refl
apart-distinct key (x ∷ xs) apart =
    let own = counts (has key (key x)) x xs (eq-eqb (key x) (key x) refl) in
    let few = apart (key x) in
    let none : list_any (λ y. key x == y) (map key xs) ≡ false = counted-none key (key x) xs (omega arith) in
    let rest : AreApart key xs = λ k. (let more = count_by-cons (has key k) x xs in let most = apart k in omega arith) in
    rw none (apart-distinct key xs rest)

-- All stamps.
abbrev stamp : StoredRecord → ℕ
stamp r = r.stamp

map-append : {X Y : Type 0} (f : X → Y) (xs ys : List X) → map f (xs ++ ys) ≡ map f xs ++ map f ys
map-append f [] ys = refl
map-append f (x ∷ xs) ys = ap (λ rest. f x ∷ rest) (map-append f xs ys)

map-map : {X Y Z : Type 0} (f : Y → Z) (g : X → Y) (xs : List X) → map f (map g xs) ≡ map (λ x. f (g x)) xs
map-map f g [] = refl
map-map f g (x ∷ xs) = ap (λ rest. f (g x) ∷ rest) (map-map f g xs)

stamps-of : (db : Database) → map stamp (records_of db) ≡ stamps_of_kinds db
stamps-of db =
    let us = map stored_user db.users in
    let os = map stored_object db.objects in
    let gs = map stored_grant db.grants in
    let rs = map stored_row db.rows in
    let u = map (λ (u : User). u.stamp) db.users in
    let o = map (λ (o : Object). o.stamp) db.objects in
    let g = map (λ (g : Grant). g.stamp) db.grants in
    let r = map (λ (r : RowRecord). r.stamp) db.rows in
    map-append stamp us (os ++ (gs ++ rs))
    ∙ ap₂ (λ (xs ys : List ℕ). xs ++ ys) (map-map stamp stored_user db.users) (map-append stamp os (gs ++ rs)
    ∙ ap₂ (λ (xs ys : List ℕ). xs ++ ys) (map-map stamp stored_object db.objects) (map-append stamp gs rs
    ∙ ap₂ (λ (xs ys : List ℕ). xs ++ ys) (map-map stamp stored_grant db.grants) (map-map stamp stored_row db.rows)))
    ∙ sym (append_assoc u o (g ++ r)) ∙ sym (append_assoc (u ++ o) g r)

-- A test of all records as they are stored.
all-stored : (p : StoredRecord → Bool) (db : Database) → list_all (λ (u : User). p (stored_user u)) db.users ≡ true → list_all (λ (o : Object). p (stored_object o)) db.objects ≡ true
    → list_all (λ (g : Grant). p (stored_grant g)) db.grants ≡ true → list_all (λ (r : RowRecord). p (stored_row r)) db.rows ≡ true → list_all p (records_of db) ≡ true
all-stored p db users objects grants rows =
    list_all-append p (map stored_user db.users) (map stored_object db.objects ++ (map stored_grant db.grants ++ map stored_row db.rows))
    ∙ and_from _ _ (list_all-map p stored_user db.users ∙ users)
    (list_all-append p (map stored_object db.objects) (map stored_grant db.grants ++ map stored_row db.rows)
    ∙ and_from _ _ (list_all-map p stored_object db.objects ∙ objects)
    (list_all-append p (map stored_grant db.grants) (map stored_row db.rows) ∙ and_from _ _ (list_all-map p stored_grant db.grants ∙ grants) (list_all-map p stored_row db.rows ∙ rows)))

stored-met : (db : Database) → AreWithin db → list_all is_short db.objects ≡ true → weight db ≤ db.cells → are_right_stamps db.next (stamps_of_kinds db) ≡ true → IsStored db.cells (counter_cells db) db.next (records_of db)
stored-met db within short room right =
    let stamps = and_parts (list_all (is_stamp_before db.next) (map stamp (records_of db))) (is_distinct (map stamp (records_of db))) (ap (are_right_stamps db.next) (stamps-of db) ∙ right) in record {
      room = room;
      lengths = all-stored is_storable db (all-weaker user_record.fits (λ (u : User). is_storable (stored_user u)) db.users storable-user within.users)
          (all-weaker is_short (λ (o : Object). is_storable (stored_object o)) db.objects storable-object short)
          (all-weaker grant_record.fits (λ (g : Grant). is_storable (stored_grant g)) db.grants (λ g fits. storable-grant g) within.grants)
          (all-weaker row_record.fits (λ (r : RowRecord). is_storable (stored_row r)) db.rows storable-row within.rows);
      stamped = sym (list_all-map (is_stamp_before db.next) stamp (records_of db)) ∙ stamps.0;
      apart = distinct-apart stamp (records_of db) stamps.1;
    }

met-stored : (db : Database) → IsStored db.cells (counter_cells db) db.next (records_of db) → are_right_stamps db.next (stamps_of_kinds db) ≡ true
met-stored db is =
    ap (are_right_stamps db.next) (sym (stamps-of db))
    ∙ and_from (list_all (is_stamp_before db.next) (map stamp (records_of db))) (is_distinct (map stamp (records_of db)))
    (list_all-map (is_stamp_before db.next) stamp (records_of db) ∙ is.stamped) (apart-distinct stamp (records_of db) is.apart)

-- Users.
users-met : (users : List User) → list_all user_record.fits users ≡ true → are_right_users users ≡ true → AreUsers users
users-met users limits right =
    let a = and_parts (rise_by (λ (u : User). u.stamp) users && is_owner_alone (filter is_db_o users) && are_apart_by are_namesakes users) (list_all (is_right_user users) users) right in
    let b = and_parts (rise_by (λ (u : User). u.stamp) users && is_owner_alone (filter is_db_o users)) (are_apart_by are_namesakes users) a.0 in
    let c = and_parts (rise_by (λ (u : User). u.stamp) users) (is_owner_alone (filter is_db_o users)) b.0 in
    let one = λ (u : User) (h : is_right_user users u ≡ true). and_parts (not (bytes_eq public_name u.name) && has_maker users u) (has_all_tries u) h in
    let two = λ (u : User) (h : is_right_user users u ≡ true). and_parts (not (bytes_eq public_name u.name)) (has_maker users u) (one u h).0 in record {
      rises = rises-test (λ (u : User). u.stamp) users c.0;
      limits = limits;
      owner = owner_alone-is (filter is_db_o users) c.1;
      names = apart_by-map bytes_eq (λ (u : User). u.name) users ∙ b.1;
      none_public = none-all (λ (u : User). bytes_eq public_name u.name) users (all-weaker (is_right_user users) (λ (u : User). not (bytes_eq public_name u.name)) users (λ u h. (two u h).0) a.1);
      makers = all-weaker (is_right_user users) (has_maker users) users (λ u h. (two u h).1) a.1;
      tries = all-weaker (is_right_user users) has_all_tries users (λ u h. (one u h).1) a.1;
    }

met-users : (users : List User) → AreUsers users → are_right_users users ≡ true
met-users users are =
    let public = all-none (λ (u : User). bytes_eq public_name u.name) users are.none_public in
    let made = all-both (λ (u : User). not (bytes_eq public_name u.name)) (has_maker users) users public are.makers in
    let each = all-both (λ (u : User). not (bytes_eq public_name u.name) && has_maker users u) has_all_tries users made are.tries in
    rw (test-rises (λ (u : User). u.stamp) users are.rises, are.owner, sym (apart_by-map bytes_eq (λ (u : User). u.name) users) ∙ are.names, each) refl

-- Objects.
objects-met : (users : List User) (objects : List Object) → list_all object_fits objects ≡ true → list_all is_short objects ≡ true → are_right_objects users objects ≡ true → AreObjects users objects
objects-met users objects limits short right =
    let a = and_parts (rise_by (λ (o : Object). o.stamp) objects && are_apart_by are_objects_of_one_name objects) (list_all (is_right_object users objects) objects) right in
    let b = and_parts (rise_by (λ (o : Object). o.stamp) objects) (are_apart_by are_objects_of_one_name objects) a.0 in
    let one = λ (o : Object) (h : is_right_object users objects o ≡ true). and_parts (is_made_by_maker users o.owner) (is_founded objects o) h in record {
      rises = rises-test (λ (o : Object). o.stamp) objects b.0;
      limits = limits;
      lengths = short;
      names = apart_by-map bytes_eq (λ (o : Object). o.name) objects ∙ b.1;
      makers = all-weaker (is_right_object users objects) (λ (o : Object). is_made_by_maker users o.owner) objects (λ o h. (one o h).0) a.1;
      founded = all-weaker (is_right_object users objects) (is_founded objects) objects (λ o h. (one o h).1) a.1;
    }

met-objects : (users : List User) (objects : List Object) → AreObjects users objects → are_right_objects users objects ≡ true
met-objects users objects are =
    and_from (rise_by (λ (o : Object). o.stamp) objects && are_apart_by are_objects_of_one_name objects) (list_all (is_right_object users objects) objects)
    (and_from (rise_by (λ (o : Object). o.stamp) objects) (are_apart_by are_objects_of_one_name objects) (test-rises (λ (o : Object). o.stamp) objects are.rises) (sym (apart_by-map bytes_eq (λ (o : Object). o.name) objects) ∙ are.names))
    (all-both (λ (o : Object). is_made_by_maker users o.owner) (is_founded objects) objects are.makers are.founded)

-- Grants.
grants-met : (users : List User) (objects : List Object) (grants : List Grant) → list_all grant_record.fits grants ≡ true → are_right_grants users objects grants ≡ true → AreGrants users objects grants
grants-met users objects grants limits right =
    let a = and_parts (rise_by (λ (g : Grant). g.stamp) grants && are_apart_by is_of_pair grants) (list_all (has_object_and_grantee users objects) grants) right in
    let b = and_parts (rise_by (λ (g : Grant). g.stamp) grants) (are_apart_by is_of_pair grants) a.0 in
    record { rises = rises-test (λ (g : Grant). g.stamp) grants b.0; limits = limits; parties = a.1; pairs = b.1 }

met-grants : (users : List User) (objects : List Object) (grants : List Grant) → AreGrants users objects grants → are_right_grants users objects grants ≡ true
met-grants users objects grants are =
    and_from (rise_by (λ (g : Grant). g.stamp) grants && are_apart_by is_of_pair grants) (list_all (has_object_and_grantee users objects) grants)
    (and_from (rise_by (λ (g : Grant). g.stamp) grants) (are_apart_by is_of_pair grants) (test-rises (λ (g : Grant). g.stamp) grants are.rises) are.pairs) are.parties

-- Rows.
rows-met : (limit : ℕ) (objects : List Object) (rows : List RowRecord) → list_all row_record.fits rows ≡ true → are_right_rows limit objects rows ≡ true → AreRows limit objects rows
rows-met limit objects rows limits right =
    let a = and_parts (rise_by (λ (r : RowRecord). r.stamp) rows) (list_all (is_right_row limit objects) rows) right in
    let one = λ (r : RowRecord) (h : is_right_row limit objects r ≡ true). and_parts (is_within_limit limit r) (has_table objects r) h in record {
      rises = rises-test (λ (r : RowRecord). r.stamp) rows a.0;
      limits = limits;
      lengths = all-weaker (is_right_row limit objects) (is_within_limit limit) rows (λ r h. (one r h).0) a.1;
      tables = all-weaker (is_right_row limit objects) (has_table objects) rows (λ r h. (one r h).1) a.1;
    }

met-rows : (limit : ℕ) (objects : List Object) (rows : List RowRecord) → AreRows limit objects rows → are_right_rows limit objects rows ≡ true
met-rows limit objects rows are =
    and_from (rise_by (λ (r : RowRecord). r.stamp) rows) (list_all (is_right_row limit objects) rows) (test-rises (λ (r : RowRecord). r.stamp) rows are.rises) (all-both (is_within_limit limit) (has_table objects) rows are.lengths are.tables)

-- All rules.
pub IsValid-met : (db : Database) → AreWithin db → list_all is_short db.objects ≡ true → weight db ≤ db.cells → meets_rules db ≡ true → IsValid db
IsValid-met db within short room right =
    let numbers = has_right_numbers db in
    let stamps = are_right_stamps db.next (stamps_of_kinds db) in
    let users = are_right_users db.users in
    let objects = are_right_objects db.users db.objects in
    let grants = are_right_grants db.users db.objects db.grants in
    let a = and_parts (numbers && stamps && users && objects && grants) (are_right_rows db.limit db.objects db.rows) right in
    let b = and_parts (numbers && stamps && users && objects) grants a.0 in
    let c = and_parts (numbers && stamps && users) objects b.0 in
    let d = and_parts (numbers && stamps) users c.0 in
    let e = and_parts numbers stamps d.0 in
    let limit = db.limit == LARGEST_UNMIGRATED || db.limit == LARGEST in
    let f = and_parts (nat_le fewest_cells db.cells && nat_le db.cells most_cells && limit && nat_le 2 db.next) (counter_record.fits db.next) e.0 in
    let g = and_parts (nat_le fewest_cells db.cells && nat_le db.cells most_cells && limit) (nat_le 2 db.next) f.0 in
    let h = and_parts (nat_le fewest_cells db.cells && nat_le db.cells most_cells) limit g.0 in
    let i = and_parts (nat_le fewest_cells db.cells) (nat_le db.cells most_cells) h.0 in record {
      cells = (leb-true fewest_cells db.cells i.0, leb-true db.cells most_cells i.1);
      limit = h.1;
      next = leb-true 2 db.next g.1;
      counter = f.1;
      stored = stored-met db within short room e.1;
      users = users-met db.users within.users d.1;
      objects = objects-met db.users db.objects within.objects short c.1;
      grants = grants-met db.users db.objects db.grants within.grants b.1;
      rows = rows-met db.limit db.objects db.rows within.rows a.1;
    }

pub met-IsValid : (db : Database) → IsValid db → meets_rules db ≡ true
met-IsValid db valid =
    let numbers : has_right_numbers db ≡ true = rw (le-leb fewest_cells db.cells valid.cells.0, le-leb db.cells most_cells valid.cells.1, valid.limit, le-leb 2 db.next valid.next) valid.counter in
    and_from _ _ (and_from _ _ (and_from _ _ (and_from _ _ (and_from _ _ numbers (met-stored db valid.stored)) (met-users db.users valid.users)) (met-objects db.users db.objects valid.objects))
    (met-grants db.users db.objects db.grants valid.grants)) (met-rows db.limit db.objects db.rows valid.rows)

-- Slots hold one database with a limit at most.
holds-once : (slots : Slots) (a b : Database) → Holds slots a → Holds slots b → a.limit ≡ b.limit → a ≡ b
holds-once slots a b one other limit =
    alike (sym one.cells ∙ other.cells) limit (head a.next b.next (sym one.counter ∙ other.counter)) (sym one.users ∙ other.users) (sym one.objects ∙ other.objects) (sym one.grants ∙ other.grants) (sym one.rows ∙ other.rows)
  where
    head : (x y : ℕ) → x ∷ [] ≡ y ∷ [] → x ≡ y
    head x y e = cc

    made : ℕ → ℕ → ℕ → List User → List Object → List Grant → List RowRecord → Database
    made cells limit next users objects grants rows = record { cells = cells; limit = limit; next = next; users = users; objects = objects; grants = grants; rows = rows }

    alike : {c c' l l' n n' : ℕ} {u u' : List User} {o o' : List Object} {g g' : List Grant} {r r' : List RowRecord} → c ≡ c' → l ≡ l' → n ≡ n' → u ≡ u' → o ≡ o' → g ≡ g' → r ≡ r'
        → made c l n u o g r ≡ made c' l' n' u' o' g' r'
    alike cells limit next users objects grants rows = cc

-- Where that which is found doesn't meet the rules, no valid one is held.
pub refused : (slots : Slots) (found db : Database) → Holds slots found → meets_rules found ≡ false → Holds slots db → db.limit ≡ found.limit → IsValid db → ⊥
refused slots found db holds wrong other limit valid =
    false≢true (sym wrong ∙ ap meets_rules (holds-once slots found db holds other (sym limit)) ∙ met-IsValid db valid)
