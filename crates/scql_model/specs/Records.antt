-- The records of a database, and how each is spelled.
use Rattle.std.specs.Prelude.{ℕ, ◌==◌, nat_le, ◌&&◌, ◌||◌, Bool, false, List, [], ◌∷◌, length, Option, Some, None, option_and_then, if◌then◌else◌}
use Rattle.std.specs.List.{flat_map, list_all}
use Rattle.scql_base.specs.declared.counter.TheConstants.Counter.{MARK as counter_mark}
use Rattle.scql_base.specs.declared.records.TheConstants.User.{SHORTEST_SECRET, LONGEST_SECRET, ALL_TRIES, MARK as user_mark}
use Rattle.scql_base.specs.declared.records.TheConstants.Object.{TABLE_MARK, VIEW_MARK, DICTIONARY_MARK}
use Rattle.scql_base.specs.declared.records.TheConstants.Grant.{MARK as grant_mark}
use Rattle.scql_base.specs.declared.records.TheConstants.RowRecord.{MARK as row_mark}
use Rattle.scql_base.specs.declared.privileges.TheConstants.Privileges.{ALL}
use Rattle.scql_base.specs.declared.conditions.TheConstants.Conditions as Conditions
use Rattle.scql_base.specs.declared.name_list.TheConstants.NameList as NameList
use Rattle.scql_base.specs.declared.row.TheConstants.Row.{LARGEST}
use Rattle.scql_base.specs.declared.words.Profile.{Profile}
use Rattle.scql_base.specs.declared.words.Subject.{Subject}
use Rattle.scql_base.specs.declared.words.Comparison.{Comparison}
use Rattle.scql_base.specs.declared.condition.Condition.{Condition}
use Rattle.scql_base.specs.declared.records.User.{User}
use Rattle.scql_base.specs.declared.records.Object.{Object}
use Rattle.scql_base.specs.declared.records.ObjectKind.{ObjectKind}
use Rattle.scql_base.specs.declared.records.ObjectKind.TheVariants.{Table, View, Dictionary}
use Rattle.scql_base.specs.declared.records.Grant.{Grant}
use Rattle.scql_base.specs.declared.records.RowRecord.{RowRecord}
pub use Rattle.scql_base.specs.Codes.{profile_code, profile_of, subject_code, subject_of, comparison_code, comparison_of}
use Rattle.scql_base.specs.Name.{is_name}
use Rattle.scql_base.specs.Row.{is_narrow, row_size}
use Rattle.scql_base.specs.Strings.{spelled, params_of}
use Rattle.scql_model.specs.Fields.{Field, ◌then◌, number, octet, letter, text, counted_list, as_record, made_at, with_mark, whole}

-- Limits.
abbrev pub is_secret : List ℕ → Bool
is_secret octets = length octets == 0 || nat_le SHORTEST_SECRET (length octets) && nat_le (length octets) LONGEST_SECRET

abbrev pub is_tries : ℕ → Bool
is_tries n = nat_le n ALL_TRIES

abbrev pub is_privileges : ℕ → Bool
is_privileges bits = nat_le 1 bits && nat_le bits ALL

abbrev pub is_count_of_columns : ℕ → Bool
is_count_of_columns n = nat_le 1 n && nat_le n NameList.MOST

abbrev pub is_count_of_conditions : ℕ → Bool
is_count_of_conditions n = nat_le n Conditions.MOST

-- 1 to 15 values that are a row of at most so many octets
abbrev pub is_row_within : ℕ → List (List ℕ) → Bool
is_row_within limit values = is_count_of_columns (length values) && list_all is_narrow values && nat_le (row_size values) limit

abbrev pub is_row : List (List ℕ) → Bool
is_row values = is_row_within LARGEST values

-- The spellings. Columns and values are texts; a row's values go to the end.
abbrev pub columns : Field (List (List ℕ))
columns = counted_list is_count_of_columns (text is_name)

abbrev pub to_condition : List ℕ × (Comparison × List ℕ) → Condition
to_condition x = record { column = x.0; comparison = x.1.0; value = x.1.1 }

abbrev pub from_condition : Condition → List ℕ × (Comparison × List ℕ)
from_condition c = (c.column, (c.comparison, c.value))

abbrev pub conditions : Field (List Condition)
conditions =
    counted_list is_count_of_conditions (as_record to_condition from_condition (text is_name then letter comparison_code comparison_of then text is_narrow))

abbrev pub no_rest : List (List ℕ) → Option (List (List ℕ) × List ℕ)
no_rest values = if is_row values then Some (values, []) else None

abbrev pub values_to_the_end : Field (List (List ℕ))
values_to_the_end = record {
  spell = λ values. flat_map spelled values;
  fits = is_row;
  read = λ octets. option_and_then no_rest (params_of octets);
}

-- counter: the next stamp
abbrev pub counter_record : Field ℕ
counter_record = with_mark counter_mark number

-- user: stamp, owner, profile, tries, name, secret
abbrev pub to_user : ℕ × (ℕ × (Profile × (ℕ × (List ℕ × List ℕ)))) → User
to_user x = record { stamp = x.0; owner = x.1.0; profile = x.1.1.0; tries = x.1.1.1.0; name = x.1.1.1.1.0; secret = x.1.1.1.1.1 }

abbrev pub from_user : User → ℕ × (ℕ × (Profile × (ℕ × (List ℕ × List ℕ))))
from_user u = (u.stamp, (u.owner, (u.profile, (u.tries, (u.name, u.secret)))))

abbrev pub user_record : Field User
user_record =
    with_mark user_mark (as_record to_user from_user (number then number then letter profile_code profile_of then octet is_tries then text is_name then text is_secret))

-- table: stamp, owner, name, columns
abbrev pub table_record : Field (ℕ × (ℕ × (List ℕ × List (List ℕ))))
table_record = with_mark TABLE_MARK (number then number then text is_name then columns)

-- view: stamp, owner, base, name, columns, conditions
abbrev pub view_record : Field (ℕ × (ℕ × (ℕ × (List ℕ × (List (List ℕ) × List Condition)))))
view_record = with_mark VIEW_MARK (number then number then number then text is_name then columns then conditions)

-- dictionary: stamp, owner, name, letter
abbrev pub dictionary_record : Field (ℕ × (ℕ × (List ℕ × Subject)))
dictionary_record = with_mark DICTIONARY_MARK (number then number then text is_name then letter subject_code subject_of)

-- grant: stamp, object, grantee, privileges
abbrev pub to_grant : ℕ × (ℕ × (ℕ × ℕ)) → Grant
to_grant x = record { stamp = x.0; object = x.1.0; grantee = x.1.1.0; privileges = x.1.1.1 }

abbrev pub from_grant : Grant → ℕ × (ℕ × (ℕ × ℕ))
from_grant g = (g.stamp, (g.object, (g.grantee, g.privileges)))

abbrev pub grant_record : Field Grant
grant_record = with_mark grant_mark (as_record to_grant from_grant (number then number then number then octet is_privileges))

-- row: stamp, table, values
abbrev pub to_row : ℕ × (ℕ × List (List ℕ)) → RowRecord
to_row x = record { stamp = x.0; table = x.1.0; row = x.1.1 }

abbrev pub from_row : RowRecord → ℕ × (ℕ × List (List ℕ))
from_row r = (r.stamp, (r.table, r.row))

abbrev pub row_record : Field RowRecord
row_record = with_mark row_mark (as_record to_row from_row (number then number then values_to_the_end))

abbrev pub object_spelling : Object → List ℕ
object_spelling o = kind_spelling o o.kind
  where
    kind_spelling : Object → ObjectKind → List ℕ
    kind_spelling o (Table columns) = table_record.spell (o.stamp, (o.owner, (o.name, columns)))
    kind_spelling o (View base columns conditions) = view_record.spell (o.stamp, (o.owner, (base, (o.name, (columns, conditions)))))
    kind_spelling o (Dictionary subject) = dictionary_record.spell (o.stamp, (o.owner, (o.name, subject)))

abbrev pub object_fits : Object → Bool
object_fits o = kind_fits o o.kind
  where
    kind_fits : Object → ObjectKind → Bool
    kind_fits o (Table columns) = table_record.fits (o.stamp, (o.owner, (o.name, columns)))
    kind_fits o (View base columns conditions) = view_record.fits (o.stamp, (o.owner, (base, (o.name, (columns, conditions)))))
    kind_fits o (Dictionary subject) = dictionary_record.fits (o.stamp, (o.owner, (o.name, subject)))

-- object: a table, a view or a dictionary, by its first octet
abbrev pub to_table : ℕ × (ℕ × (List ℕ × List (List ℕ))) → Object
to_table x = record { stamp = x.0; owner = x.1.0; name = x.1.1.0; kind = Table x.1.1.1 }

abbrev pub to_view : ℕ × (ℕ × (ℕ × (List ℕ × (List (List ℕ) × List Condition)))) → Object
to_view x = record { stamp = x.0; owner = x.1.0; name = x.1.1.1.0; kind = View x.1.1.0 x.1.1.1.1.0 x.1.1.1.1.1 }

abbrev pub to_dictionary : ℕ × (ℕ × (List ℕ × Subject)) → Object
to_dictionary x = record { stamp = x.0; owner = x.1.0; name = x.1.1.0; kind = Dictionary x.1.1.1 }

abbrev pub starts_with : ℕ → List ℕ → Bool
starts_with mark [] = false
starts_with mark (octet ∷ octets) = octet == mark

abbrev pub object_from : List ℕ → Option (Object × List ℕ)
object_from octets =
    if starts_with TABLE_MARK octets then made_at to_table table_record.read octets
    else if starts_with VIEW_MARK octets then made_at to_view view_record.read octets
    else made_at to_dictionary dictionary_record.read octets

abbrev pub object_record : Field Object
object_record = record { spell = object_spelling; fits = object_fits; read = object_from }

-- a record of any kind: that of the counter, which has the next stamp, or of a user, an object, a grant or a row
pub data AnyRecord : Type 0 where
  of_counter : ℕ → AnyRecord
  of_user : User → AnyRecord
  of_object : Object → AnyRecord
  of_grant : Grant → AnyRecord
  of_row : RowRecord → AnyRecord

-- a record is named by its stamp, and the counter by 0
abbrev pub record_stamp : AnyRecord → ℕ
record_stamp (of_counter next) = 0
record_stamp (of_user u) = u.stamp
record_stamp (of_object o) = o.stamp
record_stamp (of_grant g) = g.stamp
record_stamp (of_row r) = r.stamp

-- how a record is spelled
abbrev pub record_spelling : AnyRecord → List ℕ
record_spelling (of_counter next) = counter_record.spell next
record_spelling (of_user u) = user_record.spell u
record_spelling (of_object o) = object_spelling o
record_spelling (of_grant g) = grant_record.spell g
record_spelling (of_row r) = row_record.spell r

-- The readers of each kind's records. What is read has the kind's spelling and limits, with nothing left over.
abbrev pub counter_in : List ℕ → Option ℕ
counter_in octets = whole counter_record.read octets

abbrev pub user_in : List ℕ → Option User
user_in octets = whole user_record.read octets

abbrev pub object_in : List ℕ → Option Object
object_in octets = whole object_record.read octets

abbrev pub grant_in : List ℕ → Option Grant
grant_in octets = whole grant_record.read octets

abbrev pub row_in : List ℕ → Option RowRecord
row_in octets = whole row_record.read octets
