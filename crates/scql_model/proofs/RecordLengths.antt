-- How long the records of each kind are: all have a length that a store takes, and of those that are no rows only a view's could have more than 512 octets.
use Rattle.std.proofs.Common.{◌≡◌, ℕ, ◌*◌, ◌≤◌, true, List, [], ◌∷◌, length, refl, arith}
use Rattle.std.specs.Prelude.{nat_le, nat_lt, ◌&&◌, ◌^◌}
use Rattle.std.specs.List.{flat_map, list_all}
use Rattle.std.proofs.lemmas.Bool.{and_parts, and_from, le-leb, leb-true}
use Rattle.std.proofs.lemmas.List.{length-append}
use Rattle.scql_base.specs.Name.{is_name}
use Rattle.scql_base.specs.Row.{is_narrow, row_size}
use Rattle.scql_base.specs.Strings.{spelled}
use Rattle.scql_base.proofs.RowOctets.{row_size-spelled}
use Rattle.scql_base.specs.declared.words.Subject.{Subject}
use Rattle.scql_base.specs.declared.records.User.{User}
use Rattle.scql_base.specs.declared.records.Object.{Object}
use Rattle.scql_base.specs.declared.records.ObjectKind.{ObjectKind}
use Rattle.scql_base.specs.declared.records.ObjectKind.TheVariants.{Table, View, Dictionary}
use Rattle.scql_base.specs.declared.records.Grant.{Grant}
use Rattle.scql_base.specs.declared.records.RowRecord.{RowRecord}
use Rattle.scql_model.specs.Records.{user_record, is_secret, subject_code, is_count_of_columns, is_row, object_spelling, object_fits, row_record}
use Rattle.scql_model.specs.Rules.{is_short}
use Rattle.scql_model.specs.Stored.{is_storable}
use Rattle.scql_model.specs.Database.{stored_user, stored_object, stored_grant, stored_row}
use Rattle.scql_model.proofs.Creating.{name-size, user-short}

pub names-size : (names : List (List ℕ)) → list_all is_name names ≡ true → length (flat_map spelled names) ≤ 9 * length names
names-size [] right = omega arith
names-size (name ∷ names) right =
    let parts = and_parts (is_name name) (list_all is_name names) right in
    let one = name-size name parts.0 in
    let rest = names-size names parts.1 in
    let all = length-append (spelled name) (flat_map spelled names) in
    omega arith

-- a table's record and a dictionary's have few octets
pub short-table : (o : Object) (columns : List (List ℕ)) → o.kind ≡ Table columns → object_fits o ≡ true → is_short o ≡ true
short-table o columns is fits =
    let limits = rw is at fits in
    let named = and_parts (nat_lt o.stamp (2 ^ 32)) (nat_lt o.owner (2 ^ 32) && (is_name o.name && (is_count_of_columns (length columns) && list_all is_name columns))) limits in
    let name = and_parts (nat_lt o.owner (2 ^ 32)) (is_name o.name && (is_count_of_columns (length columns) && list_all is_name columns)) named.1 in
    let shown = and_parts (is_name o.name) (is_count_of_columns (length columns) && list_all is_name columns) name.1 in
    let counted_list = and_parts (is_count_of_columns (length columns)) (list_all is_name columns) shown.1 in
    let few = leb-true (length columns) 15 (and_parts (nat_le 1 (length columns)) (nat_le (length columns) 15) counted_list.0).1 in
    let a = name-size o.name shown.0 in
    let b = names-size columns counted_list.1 in
    let c = length-append o.name (length columns ∷ flat_map spelled columns) in
    rw is (le-leb _ 512 (omega arith))

pub short-dictionary : (o : Object) (subject : Subject) → o.kind ≡ Dictionary subject → object_fits o ≡ true → is_short o ≡ true
short-dictionary o subject is fits =
    let limits = rw is at fits in
    let named = and_parts (nat_lt o.stamp (2 ^ 32)) (nat_lt o.owner (2 ^ 32) && (is_name o.name && true)) limits in
    let name = and_parts (nat_lt o.owner (2 ^ 32)) (is_name o.name && true) named.1 in
    let a = name-size o.name (and_parts (is_name o.name) true name.1).0 in
    let b = length-append o.name (subject_code subject ∷ []) in
    rw is (le-leb _ 512 (omega arith))

-- so each record has a length that a store takes
pub storable-user : (u : User) → user_record.fits u ≡ true → is_storable (stored_user u) ≡ true
storable-user u fits = user-short u (parts u fits).0 (parts u fits).1
  where
    parts : (u : User) → user_record.fits u ≡ true → (is_name u.name ≡ true) × (is_secret u.secret ≡ true)
    parts u fits = grind (arith, and_parts)

pub storable-object : (o : Object) → is_short o ≡ true → is_storable (stored_object o) ≡ true
storable-object o short =
    let few = leb-true (length (object_spelling o)) 512 short in
    and_from (nat_le 1 (length (object_spelling o))) (nat_le (length (object_spelling o)) 1029) (some o.kind refl) (le-leb (length (object_spelling o)) 1029 (omega arith))
  where
    some : (kind : ObjectKind) → o.kind ≡ kind → nat_le 1 (length (object_spelling o)) ≡ true
    some (Table columns) is = rw is (le-leb 1 _ (omega arith))
    some (View base columns conditions) is = rw is (le-leb 1 _ (omega arith))
    some (Dictionary subject) is = rw is (le-leb 1 _ (omega arith))

pub storable-grant : (g : Grant) → is_storable (stored_grant g) ≡ true
storable-grant g = refl

pub storable-row : (r : RowRecord) → row_record.fits r ≡ true → is_storable (stored_row r) ≡ true
storable-row r fits =
    let named = and_parts (nat_lt r.stamp (2 ^ 32)) (nat_lt r.table (2 ^ 32) && is_row r.row) fits in
    let values = and_parts (nat_lt r.table (2 ^ 32)) (is_row r.row) named.1 in
    let wide = and_parts (is_count_of_columns (length r.row) && list_all is_narrow r.row) (nat_le (row_size r.row) 1020) values.1 in
    let few = leb-true (row_size r.row) 1020 wide.1 in
    let size = row_size-spelled r.row in
    and_from (nat_le 1 (length (row_record.spell r))) (nat_le (length (row_record.spell r)) 1029) (le-leb 1 (length (row_record.spell r)) (omega arith)) (le-leb (length (row_record.spell r)) 1029 (omega arith))
