-- What a valid database shows: at most 2,048 rows, each of which is a row.
use Rattle.std.proofs.Common.{◌≡◌, ◌⊎◌, ℕ, zero, suc, ◌*◌, ◌≤◌, ◌==◌, ◌^◌, nat_le, nat_lt, Bool, true, false, ◌&&◌, List, [], ◌∷◌, ◌++◌, length, map, filter, Option, Some, None, Result, Ok, Err, if◌then◌else◌, refl, sym, ap, subst, ◌∙◌, inl, inr, arith}
use Rattle.std.specs.List.{list_all, find, join_with_byte, AllByRecursion}
use Rattle.std.specs.Option.{option_map_or}
use Rattle.std.specs.Str.{bytes_eq}
use Rattle.std.proofs.lemmas.Bool.{and_parts, and_from, cases_Bool, false≢true, leb-true, le-leb, eqb-true}
use Rattle.std.proofs.lemmas.List.{length-append, length-map}
use Rattle.std.proofs.lemmas.List.Sums.{sum_by-cons}
use Rattle.scql_base.specs.Name.{is_name}
use Rattle.scql_base.specs.Row.{is_narrow, row_size}
use Rattle.scql_base.specs.declared.condition.Condition.{Condition}
use Rattle.scql_base.specs.declared.words.Subject.{Subject}
use Rattle.scql_base.specs.declared.words.Subject.TheVariants.{Objects, Users, Grants}
use Rattle.scql_base.specs.declared.records.User.{User}
use Rattle.scql_base.specs.declared.records.Object.{Object}
use Rattle.scql_base.specs.declared.records.ObjectKind.{ObjectKind}
use Rattle.scql_base.specs.declared.records.ObjectKind.TheVariants.{Table, View, Dictionary}
use Rattle.scql_base.specs.declared.records.Grant.{Grant}
use Rattle.scql_base.specs.declared.records.RowRecord.{RowRecord}
use Rattle.scql_model.specs.Records.{is_count_of_columns, is_row, user_record, object_fits, row_record}
use Rattle.scql_model.specs.Records as records
use Rattle.scql_model.specs.Rules.{is_table, fits_table, has_table, is_founded, rests_on, may_have_view}
use Rattle.scql_model.specs.Stored.{StoredRecord, is_storable, cells_for_octets, cells_of_records}
use Rattle.scql_model.specs.Database.{Database, IsValid, records_of, stored_user, stored_object, stored_grant, stored_row, are_among, are_different, are_named_among, object_stamped, user_stamped, rows_of, public_name}
use Rattle.scql_base.specs.declared.words.Actor.{Actor}
use Rattle.scql_base.specs.declared.words.StatusWord.{StatusWord}
use Rattle.scql_base.specs.Words.{not_found, security_not_satisfied}
use Rattle.scql_model.specs.Refusals.{◌>>=◌, or_refused, provided}
use Rattle.scql_model.specs.Machine.{Machine, base, actor}
use Rattle.scql_model.specs.Rights.{select_privilege, appears, holds, seen_named}
use Rattle.scql_model.specs.Matching.{Columns, Values, value_of, matches}
use Rattle.scql_model.specs.Objects.{StampedRow, columns_of, dictionary_columns}
use Rattle.scql_model.specs.Dictionaries.{tells_of, user_name, object_name, object_owner, base_told, columns_told, grantee_name, object_told, user_told, grant_told, rows_told}
use Rattle.scql_model.specs.Contents.{Contents, cut_to, of_table, narrowed, rows_in, contents_in, contents_below, contents_of}
use Rattle.scql_model.specs.Parameters.{are_chosen_columns}
use Rattle.scql_model.specs.ReadingCommands.{wanted_of, named_among}
use Rattle.scql_model.proofs.Creating.{name-size}
use Rattle.scql_model.proofs.CutRows.{narrow-cut, size-cut}
use Rattle.scql_model.proofs.Keeping.{IsThere-found}
use Rattle.scql_model.proofs.KeepsViews.{among-wanted}
use Rattle.scql_model.proofs.LongerLists.{find-all, find-passes}
use Rattle.planner.specs.Meaning.{Declared, cursor_on, declared}

-- No more records than cells.
records-few : (records : List StoredRecord) → list_all is_storable records ≡ true → length records ≤ cells_of_records records
records-few [] are = omega arith
records-few (r ∷ records) are =
    let parts = and_parts (is_storable r) (list_all is_storable records) are in
    let least : 1 ≤ length r.octets = leb-true 1 (length r.octets) (and_parts (nat_le 1 (length r.octets)) (nat_le (length r.octets) 1029) parts.0).0 in
    let rest = records-few records parts.1 in
    let sum = sum_by-cons (λ (x : StoredRecord). cells_for_octets x.octets) r records in
    omega (arith, least, rest, sum)

record HasFew (db : Database) : Type 0 where
  users : length db.users ≤ 2048
  objects : length db.objects ≤ 2048
  grants : length db.grants ≤ 2048
  rows : length db.rows ≤ 2048

has-few : (db : Database) → IsValid db → HasFew db
has-few db valid =
    let users : List StoredRecord = map stored_user db.users in
    let objects : List StoredRecord = map stored_object db.objects in
    let grants : List StoredRecord = map stored_grant db.grants in
    let rows : List StoredRecord = map stored_row db.rows in
    let all : length (records_of db) ≤ 2048 = omega (arith, records-few (records_of db) valid.stored.lengths, valid.stored.room, valid.cells.1) in
    let a = length-append users (objects ++ (grants ++ rows)) in
    let b = length-append objects (grants ++ rows) in
    let c = length-append grants rows in
    let u : length users ≡ length db.users = length-map db.users stored_user in
    let o : length objects ≡ length db.objects = length-map db.objects stored_object in
    let g : length grants ≡ length db.grants = length-map db.grants stored_grant in
    let r : length rows ≡ length db.rows = length-map db.rows stored_row in
    record {
      users = omega (arith, all, a, b, c, u, o, g, r);
      objects = omega (arith, all, a, b, c, u, o, g, r);
      grants = omega (arith, all, a, b, c, u, o, g, r);
      rows = omega (arith, all, a, b, c, u, o, g, r);
    }

filter-fewer : {X : Type 0} (p : X → Bool) (xs : List X) (most : ℕ) → length xs ≤ most → length (filter p xs) ≤ most
filter-fewer p [] most few = few
filter-fewer p (x ∷ xs) most few =
    elim (cases_Bool (p x)) [
      | inl t ↦ rw t (let rest = filter-fewer p xs (length xs) (omega arith) in omega (arith, rest, few))
      | inr f ↦ rw f (filter-fewer p xs most (omega (arith, few)))
    ]

map-fewer : {X Y : Type 0} (f : X → Y) (xs : List X) (most : ℕ) → length xs ≤ most → length (map f xs) ≤ most
map-fewer f xs most few = rw (length-map xs f) few

-- Rows under columns.
record IsUnder (columns : Columns) (values : Values) : Type 0 where
  count : length columns ≡ length values
  narrow : list_all is_narrow values ≡ true
  small : row_size values ≤ 1020

abbrev AreUnder : Columns → List StampedRow → Type 0
AreUnder columns rows = AllByRecursion (λ (r : StampedRow). IsUnder columns r.values) rows

record IsShownWell (contents : Contents) : Type 0 where
  few : length contents.rows ≤ 2048
  under : AreUnder contents.columns contents.rows

cut-under : (all wanted : Columns) (values : Values) → are_different wanted ≡ true → are_among wanted all ≡ true → IsUnder all values → IsUnder wanted (cut_to all wanted values)
cut-under all wanted values different among under = record {
  count = sym (length-map wanted (value_of all values));
  narrow = narrow-cut all wanted values under.narrow;
  small = omega (arith, size-cut all wanted values different among under.count, under.small);
}

filter-mapped : {X Y : Type 0} (P : X → Type 0) (Q : Y → Type 0) (p : X → Bool) (f : X → Y) (xs : List X) → ((x : X) → P x → p x ≡ true → Q (f x)) → AllByRecursion P xs → AllByRecursion Q (map f (filter p xs))
filter-mapped P Q p f [] each all = tt
filter-mapped P Q p f (x ∷ xs) each all =
    elim (cases_Bool (p x)) [
      | inl t ↦ rw t (each x all.0 t, filter-mapped P Q p f xs each all.1)
      | inr g ↦ rw g (filter-mapped P Q p f xs each all.1)
    ]

all-by : {X : Type 0} (p : X → Bool) (xs : List X) → list_all p xs ≡ true → AllByRecursion (λ x. p x ≡ true) xs
all-by p [] all = tt
all-by p (x ∷ xs) all = let parts = and_parts (p x) (list_all p xs) all in (parts.0, all-by p xs parts.1)

both-by : {X : Type 0} (P Q : X → Type 0) (xs : List X) → AllByRecursion P xs → AllByRecursion Q xs → AllByRecursion (λ x. P x × Q x) xs
both-by P Q [] all every = tt
both-by P Q (x ∷ xs) all every = ((all.0, every.0), both-by P Q xs all.1 every.1)

narrowed-under : (contents : Contents) (wanted : Columns) (conditions : List Condition) → are_different wanted ≡ true → are_among wanted contents.columns ≡ true → IsShownWell contents
    → AreUnder wanted (narrowed wanted conditions contents)
narrowed-under contents wanted conditions different among well =
    filter-mapped (λ (r : StampedRow). IsUnder contents.columns r.values) (λ (r : StampedRow). IsUnder wanted r.values) (λ (r : StampedRow). matches contents.columns conditions r.values)
    (λ (r : StampedRow). record r { values = cut_to contents.columns wanted r.values }) contents.rows (λ r under passes. cut-under contents.columns wanted r.values different among under) well.under

narrowed-few : (contents : Contents) (wanted : Columns) (conditions : List Condition) → IsShownWell contents → length (narrowed wanted conditions contents) ≤ 2048
narrowed-few contents wanted conditions well =
    map-fewer (λ (r : StampedRow). record r { values = cut_to contents.columns wanted r.values }) (filter (λ (r : StampedRow). matches contents.columns conditions r.values) contents.rows) 2048
    (filter-fewer (λ (r : StampedRow). matches contents.columns conditions r.values) contents.rows 2048 well.few)

-- Rows of dictionaries: their values are short.
short-name : (name : List ℕ) → is_name name ≡ true → length name ≤ 8
short-name name is = omega (arith, name-size name is)

narrow-short : (value : List ℕ) → length value ≤ 200 → is_narrow value ≡ true
narrow-short value short = le-leb (length value) 200 short

joined-size : (c : ℕ) (names : List (List ℕ)) → list_all is_name names ≡ true → length (join_with_byte c names) ≤ 9 * length names
joined-size c [] are = omega arith
joined-size c (x ∷ []) are = omega (arith, short-name x (and_parts (is_name x) true are).0)
joined-size c (x ∷ y ∷ names) are =
    let parts = and_parts (is_name x) (list_all is_name (y ∷ names)) are in
    omega (arith, short-name x parts.0, joined-size c (y ∷ names) parts.1, length-append x (c ∷ join_with_byte c (y ∷ names)))

row-of-five : (columns : Columns) (a b c d e : List ℕ) → length columns ≡ 5 → length a ≤ 200 → length b ≤ 200 → length c ≤ 200 → length d ≤ 200 → length e ≤ 200
    → IsUnder columns (a ∷ b ∷ c ∷ d ∷ e ∷ [])
row-of-five columns a b c d e count sa sb sc sd se = record {
  count = count;
  narrow = rw (narrow-short a sa, narrow-short b sb, narrow-short c sc, narrow-short d sd, narrow-short e se) refl;
  small = omega (arith, sa, sb, sc, sd, se);
}

row-of-three : (columns : Columns) (a b c : List ℕ) → length columns ≡ 3 → length a ≤ 200 → length b ≤ 200 → length c ≤ 200 → IsUnder columns (a ∷ b ∷ c ∷ [])
row-of-three columns a b c count sa sb sc = record {
  count = count;
  narrow = rw (narrow-short a sa, narrow-short b sb, narrow-short c sc) refl;
  small = omega (arith, sa, sb, sc);
}

-- the names and columns of objects, and the names of users
record IsNamed (o : Object) : Type 0 where
  name : is_name o.name ≡ true
  told : length (columns_told o.kind) ≤ 200
  some : is_count_of_columns (length (columns_of o.kind)) ≡ true

object-named : (o : Object) → object_fits o ≡ true → IsNamed o
object-named o fits = go o.kind refl fits
  where
    told-few : (columns : Columns) → is_count_of_columns (length columns) ≡ true → list_all is_name columns ≡ true → length (join_with_byte 0x2C columns) ≤ 200
    told-few columns count are =
        let few = leb-true (length columns) 15 (and_parts (nat_le 1 (length columns)) (nat_le (length columns) 15) count).1 in
        omega (arith, few, joined-size 0x2C columns are)

    go : (kind : ObjectKind) → o.kind ≡ kind → object_fits o ≡ true → IsNamed o
    go (Table columns) is fits =
        let limits = rw is at fits in
        let a = and_parts (nat_lt o.stamp (2 ^ 32)) (nat_lt o.owner (2 ^ 32) && (is_name o.name && (is_count_of_columns (length columns) && list_all is_name columns))) limits in
        let b = and_parts (nat_lt o.owner (2 ^ 32)) (is_name o.name && (is_count_of_columns (length columns) && list_all is_name columns)) a.1 in
        let c = and_parts (is_name o.name) (is_count_of_columns (length columns) && list_all is_name columns) b.1 in
        let d = and_parts (is_count_of_columns (length columns)) (list_all is_name columns) c.1 in
        record { name = c.0; told = rw is (told-few columns d.0 d.1); some = rw is d.0 }
    go (View base columns conditions) is fits =
        let limits = rw is at fits in
        let last : Bool = records.conditions.fits conditions in
        let a = and_parts (nat_lt o.stamp (2 ^ 32)) (nat_lt o.owner (2 ^ 32) && (nat_lt base (2 ^ 32) && (is_name o.name && ((is_count_of_columns (length columns) && list_all is_name columns) && last)))) limits in
        let b = and_parts (nat_lt o.owner (2 ^ 32)) (nat_lt base (2 ^ 32) && (is_name o.name && ((is_count_of_columns (length columns) && list_all is_name columns) && last))) a.1 in
        let e = and_parts (nat_lt base (2 ^ 32)) (is_name o.name && ((is_count_of_columns (length columns) && list_all is_name columns) && last)) b.1 in
        let c = and_parts (is_name o.name) ((is_count_of_columns (length columns) && list_all is_name columns) && last) e.1 in
        let f = and_parts (is_count_of_columns (length columns) && list_all is_name columns) last c.1 in
        let d = and_parts (is_count_of_columns (length columns)) (list_all is_name columns) f.0 in
        record { name = c.0; told = rw is (told-few columns d.0 d.1); some = rw is d.0 }
    go (Dictionary subject) is fits =
        let limits = rw is at fits in
        let a = and_parts (nat_lt o.stamp (2 ^ 32)) (nat_lt o.owner (2 ^ 32) && (is_name o.name && true)) limits in
        let b = and_parts (nat_lt o.owner (2 ^ 32)) (is_name o.name && true) a.1 in
        let c = and_parts (is_name o.name) true b.1 in
        record { name = c.0; told = rw is (told subject); some = rw is (some subject) }
      where
        told : (subject : Subject) → length (join_with_byte 0x2C (dictionary_columns subject)) ≤ 200
        told Objects = leb-true _ 200 refl
        told Users = leb-true _ 200 refl
        told Grants = leb-true _ 200 refl

        some : (subject : Subject) → is_count_of_columns (length (dictionary_columns subject)) ≡ true
        some Objects = refl
        some Users = refl
        some Grants = refl

user-named : (u : User) → user_record.fits u ≡ true → is_name u.name ≡ true
user-named u fits = grind (arith, and_parts)

row-formed : (r : RowRecord) → row_record.fits r ≡ true → is_row r.row ≡ true
row-formed r fits =
    (and_parts (nat_lt r.table (2 ^ 32)) (is_row r.row) (and_parts (nat_lt r.stamp (2 ^ 32)) (nat_lt r.table (2 ^ 32) && is_row r.row) fits).1).1

-- an object's columns are different
different-of : (objects : List Object) (o : Object) → is_founded objects o ≡ true → are_different (columns_of o.kind) ≡ true
different-of objects o founded = go o.kind refl
  where
    told : (subject : Subject) → are_different (dictionary_columns subject) ≡ true
    told Objects = refl
    told Users = refl
    told Grants = refl

    go : (kind : ObjectKind) → o.kind ≡ kind → are_different (columns_of kind) ≡ true
    go (Table columns) is = rw is at founded
    go (View base columns conditions) is = (and_parts (are_different columns) _ (rw is at founded)).0
    go (Dictionary subject) is = told subject

-- what is shown of a view's base has the base's columns, or no rows
abbrev HasColumnsOf : Object → Contents → Type 0
HasColumnsOf b contents = (contents.rows ≡ []) ⊎ (contents.columns ≡ columns_of b.kind)

module _ (db : Database) (valid : IsValid db) where
  short-user : (stamp : ℕ) → length (user_name db stamp) ≤ 200
  short-user stamp = go (user_stamped db.users stamp) refl
    where
      go : (found : Option User) → user_stamped db.users stamp ≡ found → length (option_map_or (λ (u : User). u.name) found []) ≤ 200
      go None is = omega arith
      go (Some u) is = omega (arith, short-name u.name (user-named u (find-all user_record.fits (λ (x : User). x.stamp == stamp) db.users u valid.users.limits is)))

  short-object : (stamp : ℕ) → length (object_name db stamp) ≤ 200
  short-object stamp = go (object_stamped db.objects stamp) refl
    where
      go : (found : Option Object) → object_stamped db.objects stamp ≡ found → length (option_map_or (λ (o : Object). o.name) found []) ≤ 200
      go None is = omega arith
      go (Some o) is = omega (arith, short-name o.name (object-named o (find-all object_fits (λ (x : Object). x.stamp == stamp) db.objects o valid.objects.limits is)).name)

  short-base : (kind : ObjectKind) → length (base_told db kind) ≤ 200
  short-base (Table columns) = omega arith
  short-base (View base columns conditions) = short-object base
  short-base (Dictionary subject) = omega arith

  short-grantee : (stamp : ℕ) → length (grantee_name db stamp) ≤ 200
  short-grantee stamp = go (stamp == 0)
    where
      go : (everybody : Bool) → length (if everybody then public_name else user_name db stamp) ≤ 200
      go true = leb-true _ 200 refl
      go false = short-user stamp

  told-under : (owner : ℕ) (subject : Subject) → AreUnder (dictionary_columns subject) (rows_told db owner subject)
  told-under owner Objects =
      filter-mapped (λ (o : Object). object_fits o ≡ true) (λ (r : StampedRow). IsUnder (dictionary_columns Objects) r.values) (λ (o : Object). tells_of owner o.owner) (object_told db) db.objects
      (λ o fits passes. let named = object-named o fits in
      row-of-five (dictionary_columns Objects) o.name _ (user_name db o.owner) (base_told db o.kind) (columns_told o.kind) refl
      (omega (arith, short-name o.name named.name)) (omega arith) (short-user o.owner) (short-base o.kind) named.told)
      (all-by object_fits db.objects valid.objects.limits)
  told-under owner Users =
      filter-mapped (λ (u : User). user_record.fits u ≡ true) (λ (r : StampedRow). IsUnder (dictionary_columns Users) r.values) (λ (u : User). tells_of owner u.owner) (user_told db) db.users
      (λ u fits passes. row-of-three (dictionary_columns Users) u.name _ (user_name db u.owner) refl (omega (arith, short-name u.name (user-named u fits))) (omega arith) (short-user u.owner))
      (all-by user_record.fits db.users valid.users.limits)
  told-under owner Grants =
      filter-mapped (λ (g : Grant). records.grant_record.fits g ≡ true) (λ (r : StampedRow). IsUnder (dictionary_columns Grants) r.values) (λ (g : Grant). tells_of owner (object_owner db g.object)) (grant_told db) db.grants
      (λ g fits passes. row-of-three (dictionary_columns Grants) (object_name db g.object) (grantee_name db g.grantee) _ refl (short-object g.object) (short-grantee g.grantee) (omega arith))
      (all-by records.grant_record.fits db.grants valid.grants.limits)

  told-few : (owner : ℕ) (subject : Subject) → length (rows_told db owner subject) ≤ 2048
  told-few owner Objects = map-fewer (object_told db) _ 2048 (filter-fewer (λ (o : Object). tells_of owner o.owner) db.objects 2048 (has-few db valid).objects)
  told-few owner Users = map-fewer (user_told db) _ 2048 (filter-fewer (λ (u : User). tells_of owner u.owner) db.users 2048 (has-few db valid).users)
  told-few owner Grants = map-fewer (grant_told db) _ 2048 (filter-fewer (λ (g : Grant). tells_of owner (object_owner db g.object)) db.grants 2048 (has-few db valid).grants)

  -- a row of a table
  row-under : (o : Object) (r : RowRecord) → object_stamped db.objects o.stamp ≡ Some o → (row_record.fits r ≡ true) × (has_table db.objects r ≡ true) → (r.table == o.stamp) ≡ true → IsUnder (columns_of o.kind) r.row
  row-under o r there is of =
      let formed = and_parts (is_count_of_columns (length r.row) && list_all is_narrow r.row) (nat_le (row_size r.row) 1020) (row-formed r is.0) in
      let same : r.table ≡ o.stamp = eqb-true r.table o.stamp of in
      let fits : fits_table r o ≡ true = sym (ap (λ (found : Option Object). option_map_or (fits_table r) found false) (ap (object_stamped db.objects) same ∙ there)) ∙ is.1 in
      record {
        count = eqb-true (length (columns_of o.kind)) (length r.row) (and_parts (is_table o.kind && nat_lt o.stamp r.stamp) (length (columns_of o.kind) == length r.row) fits).1;
        narrow = (and_parts (is_count_of_columns (length r.row)) (list_all is_narrow r.row) formed.0).1;
        small = leb-true (row_size r.row) 1020 formed.1;
      }

  rows-well : (contents : ℕ → Contents) (o : Object) → object_stamped db.objects o.stamp ≡ Some o → is_founded db.objects o ≡ true → ((base : ℕ) → IsShownWell (contents base))
      → ((base : ℕ) (b : Object) → object_stamped db.objects base ≡ Some b → HasColumnsOf b (contents base)) → (kind : ObjectKind) → o.kind ≡ kind
      → (length (rows_in contents db o kind) ≤ 2048) × AreUnder (columns_of o.kind) (rows_in contents db o kind)
  rows-well contents o there founded well has (Table columns) is = (
    map-fewer of_table (rows_of o.stamp db.rows) 2048 (filter-fewer (λ (r : RowRecord). r.table == o.stamp) db.rows 2048 (has-few db valid).rows),
    filter-mapped (λ (r : RowRecord). (row_record.fits r ≡ true) × (has_table db.objects r ≡ true)) (λ (r : StampedRow). IsUnder (columns_of o.kind) r.values) (λ (r : RowRecord). r.table == o.stamp) of_table db.rows
        (λ r are of. row-under o r there are of)
        (both-by (λ (r : RowRecord). row_record.fits r ≡ true) (λ (r : RowRecord). has_table db.objects r ≡ true) db.rows (all-by row_record.fits db.rows valid.rows.limits) (all-by (has_table db.objects) db.rows valid.rows.tables)),
  )
  rows-well contents o there founded well has (View base columns conditions) is = (
    narrowed-few (contents base) columns conditions (well base),
    subst (λ (kind : ObjectKind). AreUnder (columns_of kind) (narrowed columns conditions (contents base))) (sym is)
        (rests (object_stamped db.objects base) refl (and_parts (are_different columns) _ (rw is at founded))),
  )
    where
      under : (b : Object) → HasColumnsOf b (contents base) → are_different columns ≡ true → are_among columns (columns_of b.kind) ≡ true → AreUnder columns (narrowed columns conditions (contents base))
      under b (inl none) different among =
          subst (λ (rows : List StampedRow). AreUnder columns (narrowed columns conditions (record (contents base) { rows = rows }))) (sym none) tt
      under b (inr same) different among =
          narrowed-under (contents base) columns conditions different (ap (are_among columns) same ∙ among) (well base)

      rests : (found : Option Object) → object_stamped db.objects base ≡ found
          → (are_different columns ≡ true) × (option_map_or (rests_on db.objects o columns conditions) (object_stamped db.objects base) false ≡ true)
          → AreUnder columns (narrowed columns conditions (contents base))
      rests None at parts = absurd (false≢true (sym (ap (λ (found : Option Object). option_map_or (rests_on db.objects o columns conditions) found false) at) ∙ parts.1))
      rests (Some b) at parts =
          let on : rests_on db.objects o columns conditions b ≡ true = sym (ap (λ (found : Option Object). option_map_or (rests_on db.objects o columns conditions) found false) at) ∙ parts.1 in
          let named = (and_parts (nat_lt b.stamp o.stamp && (b.owner == o.owner) && may_have_view db.objects b) (are_named_among (columns_of b.kind) columns conditions) on).1 in
          under b (has base b at) parts.0 (and_parts (are_among columns (columns_of b.kind)) _ named).0
  rows-well contents o there founded well has (Dictionary subject) is =
      (told-few o.owner subject, subst (λ (kind : ObjectKind). AreUnder (columns_of kind) (rows_told db o.owner subject)) (sym is) (told-under o.owner subject))

  has-columns : (n base : ℕ) (b : Object) → object_stamped db.objects base ≡ Some b → HasColumnsOf b (contents_below n db base)
  has-columns zero base b there = inl refl
  has-columns (suc n) base b there = inr (ap (λ (found : Option Object). (contents_in (contents_below n db) db found).columns) there)

  well-below : (n stamp : ℕ) → IsShownWell (contents_below n db stamp)
  well-below zero stamp = record { few = omega arith; under = tt }
  well-below (suc n) stamp = go (object_stamped db.objects stamp) refl (well-below n)
    where
      go : (found : Option Object) → object_stamped db.objects stamp ≡ found → ((base : ℕ) → IsShownWell (contents_below n db base)) → IsShownWell (contents_in (contents_below n db) db found)
      go None is well = record { few = omega arith; under = tt }
      go (Some o) is well =
          let same : o.stamp ≡ stamp = eqb-true o.stamp stamp (find-passes (λ (x : Object). x.stamp == stamp) db.objects o is) in
          let rows = rows-well (contents_below n db) o (ap (object_stamped db.objects) same ∙ is) (find-all (is_founded db.objects) (λ (x : Object). x.stamp == stamp) db.objects o valid.objects.founded is)
          well (has-columns n) o.kind refl in
          record { few = rows.0; under = rows.1 }

  well-shown : (stamp : ℕ) → IsShownWell (contents_of db stamp)
  unfolding contents_of
  well-shown stamp = well-below 5 stamp

  columns-shown : (o : Object) → object_stamped db.objects o.stamp ≡ Some o → (contents_of db o.stamp).columns ≡ columns_of o.kind
  unfolding contents_of
  columns-shown o there = rw there refl

  -- the columns that a cursor wants
  record AreWanted (all wanted : Columns) : Type 0 where
    count : is_count_of_columns (length wanted) ≡ true
    different : are_different wanted ≡ true
    among : are_among wanted all ≡ true

  wanted-are : (all columns : Columns) (conditions : List Condition) → is_count_of_columns (length all) ≡ true → are_different all ≡ true → are_chosen_columns columns ≡ true
      → are_named_among all columns conditions ≡ true → AreWanted all (wanted_of all columns)
  wanted-are all [] conditions count different chosen among = record {
    count = count;
    different = different;
    among = (and_parts (are_among all all) _ (among-wanted all [] conditions among)).0;
  }
  wanted-are all (name ∷ names) conditions count different chosen among =
      let a = and_parts (nat_le (length (name ∷ names)) 15) (list_all is_name (name ∷ names) && are_different (name ∷ names)) chosen in
      record {
        count = and_from (nat_le 1 (length (name ∷ names))) (nat_le (length (name ∷ names)) 15) (le-leb 1 (length (name ∷ names)) (omega arith)) a.0;
        different = (and_parts (list_all is_name (name ∷ names)) (are_different (name ∷ names)) a.1).1;
        among = (and_parts (are_among (name ∷ names) all) _ among).0;
      }

  -- at most so many rows, each of which is one
  pub record AreFormed (rows : List StampedRow) : Type 0 where
    pub few : length rows ≤ 2048
    pub formed : AllByRecursion (λ (values : Values). is_row values ≡ true) (map (λ (r : StampedRow). r.values) rows)

  formed-under : (wanted : Columns) (rows : List StampedRow) → is_count_of_columns (length wanted) ≡ true → AreUnder wanted rows
      → AllByRecursion (λ (values : Values). is_row values ≡ true) (map (λ (r : StampedRow). r.values) rows)
  formed-under wanted [] count under = tt
  formed-under wanted (r ∷ rows) count under =
      let counted : is_count_of_columns (length r.values) ≡ true = subst (λ n. is_count_of_columns n ≡ true) under.0.count count in
      (rw (counted, under.0.narrow, le-leb (row_size r.values) 1020 under.0.small) refl, formed-under wanted rows count under.1)

  rows-formed : (q : Object → Bool) (o : Object) (columns : Columns) (conditions : List Condition) → find q db.objects ≡ Some o → are_chosen_columns columns ≡ true
      → are_named_among (contents_of db o.stamp).columns columns conditions ≡ true
      → AreFormed (narrowed (wanted_of (contents_of db o.stamp).columns columns) conditions (contents_of db o.stamp))
  rows-formed q o columns conditions found chosen among =
      let there = (IsThere-found db q o valid found).stamped in
      let shown = columns-shown o there in
      let some = (object-named o (find-all object_fits q db.objects o valid.objects.limits found)).some in
      let different = different-of db.objects o (find-all (is_founded db.objects) q db.objects o valid.objects.founded found) in
      let are = wanted-are (contents_of db o.stamp).columns columns conditions (ap (λ (all : Columns). is_count_of_columns (length all)) shown ∙ some) (ap are_different shown ∙ different) chosen among in
      let wanted = wanted_of (contents_of db o.stamp).columns columns in
      record {
        few = narrowed-few (contents_of db o.stamp) wanted conditions (well-shown o.stamp);
        formed = formed-under wanted (narrowed wanted conditions (contents_of db o.stamp)) are.count (narrowed-under (contents_of db o.stamp) wanted conditions are.different are.among (well-shown o.stamp));
      }

-- A cursor that is declared on a valid database has such rows.
abbrev pub AreDeclared : (db : Database) → IsValid db → Result Declared StatusWord → Type 0
AreDeclared db valid (Err word) = Unit {0}
AreDeclared db valid (Ok d) = AreFormed db valid d.rows

module _ (m : Machine) (channel : ℕ) (object : List ℕ) (columns : Columns) (conditions : List Condition) (valid : IsValid (base m channel)) (chosen : are_chosen_columns columns ≡ true) where
  abbrev db : Database
  db = base m channel

  abbrev me : Actor
  me = actor m channel

  abbrev made : Object → Unit {0} → Result Declared StatusWord
  made o asked = Ok (record {
    cursor = cursor_on o.stamp (wanted_of (contents_of db o.stamp).columns columns) conditions;
    rows = narrowed (wanted_of (contents_of db o.stamp).columns columns) conditions (contents_of db o.stamp);
  })

  named-formed : (o : Object) → seen_named db me object ≡ Some o → (named : Bool) → are_named_among (contents_of db o.stamp).columns columns conditions ≡ named
      → AreDeclared db valid (provided named not_found >>= made o)
  named-formed o seen false is = tt
  named-formed o seen true is = rows-formed db valid (λ (x : Object). bytes_eq object x.name && appears db me x) o columns conditions seen chosen is

  abbrev declared_on : Object → Bool → Result Declared StatusWord
  declared_on o may =
      (provided may security_not_satisfied >>= λ _. Ok (contents_of db o.stamp)) >>= λ contents. (named_among contents.columns columns conditions
      >>= λ _. Ok (record { cursor = cursor_on o.stamp (wanted_of contents.columns columns) conditions; rows = narrowed (wanted_of contents.columns columns) conditions contents }))

  allowed-formed : (o : Object) → seen_named db me object ≡ Some o → (may : Bool) → AreDeclared db valid (declared_on o may)
  allowed-formed o seen false = tt
  allowed-formed o seen true = named-formed o seen (are_named_among (contents_of db o.stamp).columns columns conditions) refl

  found-formed : (found : Option Object) → seen_named db me object ≡ found → AreDeclared db valid (or_refused found not_found >>= λ o. declared_on o (holds db me o select_privilege))
  found-formed None seen = tt
  found-formed (Some o) seen = allowed-formed o seen (holds db me o select_privilege)

  pub declared-formed : AreDeclared db valid (declared m channel object columns conditions)
  unfolding declared
  declared-formed = found-formed (seen_named db me object) refl
