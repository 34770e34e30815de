-- Commands that make and drop objects (ISO/IEC 7816-7, CREATE TABLE, CREATE VIEW, CREATE DICTIONARY, DROP TABLE, DROP VIEW): for each the
-- edits that it makes, or the first refusal that applies.
use Rattle.std.specs.Prelude.{ℕ, ◌==◌, not, Bool, true, false, List, ◌∷◌, ◌++◌, map, filter, Option, Some, None, Result, Ok, if◌then◌else◌}
use Rattle.std.specs.List.{list_any}
use Rattle.std.specs.Str.{bytes_eq}
use Rattle.scql_base.specs.declared.words.Actor.{Actor}
use Rattle.scql_base.specs.declared.words.Actor.TheVariants.{Public, User as a_user}
use Rattle.scql_base.specs.declared.words.StatusWord.{StatusWord}
use Rattle.scql_base.specs.declared.condition.Condition.{Condition}
use Rattle.scql_base.specs.declared.records.Object.{Object}
use Rattle.scql_base.specs.declared.records.ObjectKind.{ObjectKind}
use Rattle.scql_base.specs.declared.records.ObjectKind.TheVariants.{View, Dictionary}
use Rattle.scql_base.specs.declared.records.Grant.{Grant}
use Rattle.scql_base.specs.declared.records.RowRecord.{RowRecord}
use Rattle.scql_base.specs.Words.{security_not_satisfied, conditions_not_satisfied, not_found, already_exists}
use Rattle.scql_model.specs.Database.{Database, is_maker, is_table, rows_of}
use Rattle.scql_model.specs.Creating.{actor_stamp}
use Rattle.scql_model.specs.Matching.{Columns}
use Rattle.scql_model.specs.Objects.{columns_of}
use Rattle.scql_model.specs.Rules.{may_have_view}
use Rattle.scql_model.specs.Rights.{owns, seen_named}
use Rattle.scql_model.specs.ReadingCommands.{wanted_of, named_among}
use Rattle.scql_model.specs.Refusals.{◌>>=◌, or_refused, provided}
use Rattle.scql_model.specs.Edits.{Edit, of_object, of_grant, of_row, making, removing}

-- DB_O and DBOO make objects
abbrev pub makes_objects : Actor → Bool
makes_objects Public = false
makes_objects (a_user stamp profile) = is_maker profile

-- the object, if it is of such a kind
abbrev pub of_kind : (ObjectKind → Bool) → Option Object → Option Object
of_kind test None = None
of_kind test (Some o) = if test o.kind then Some o else None

-- an object that is there, and that the actor owns
abbrev pub owned_by : Actor → Option Object → Result Object StatusWord
owned_by actor found = do
  o ← or_refused found not_found
  _ ← provided (owns actor o) security_not_satisfied
  Ok o

-- a new object takes the next stamp, and is owned by who makes it
abbrev pub new_object : Database → Actor → List ℕ → ObjectKind → Object
new_object db actor name kind = record { stamp = db.next; name = name; owner = actor_stamp actor; kind = kind }

-- an object is added, whose name no other object has
abbrev pub named_anew : Database → Object → Result (List Edit) StatusWord
named_anew db o = do
  _ ← provided (not (list_any (λ (other : Object). bytes_eq o.name other.name) db.objects)) already_exists
  Ok (making db (of_object o))

-- CREATE TABLE and CREATE DICTIONARY
unfoldable pub object_created : Database → Actor → List ℕ → ObjectKind → Result (List Edit) StatusWord
object_created db actor name kind = do
  _ ← provided (makes_objects actor) security_not_satisfied
  named_anew db (new_object db actor name kind)

-- what a view may rest on: a table, or another view
abbrev pub is_table_or_view : ObjectKind → Bool
is_table_or_view (Dictionary subject) = false
is_table_or_view kind = true

-- CREATE VIEW; an empty list of columns becomes all columns
unfoldable pub view_created : Database → Actor → List ℕ → List ℕ → Columns → List Condition → Result (List Edit) StatusWord
view_created db actor name base_name columns conditions = do
  _ ← provided (makes_objects actor) security_not_satisfied
  base ← owned_by actor (of_kind is_table_or_view (seen_named db actor base_name))
  _ ← provided (may_have_view db.objects base) conditions_not_satisfied
  _ ← named_among (columns_of base.kind) columns conditions
  named_anew db (new_object db actor name (View base.stamp (wanted_of (columns_of base.kind) columns) conditions))

-- an object on which a view rests
abbrev pub is_based_on : Object → ObjectKind → Bool
is_based_on o (View base columns conditions) = base == o.stamp
is_based_on o kind = false

abbrev pub has_view : Database → Object → Bool
has_view db o = list_any (λ (v : Object). is_based_on o v.kind) db.objects

-- an object goes, and the grants on it
abbrev pub removing_object : Database → Object → List Edit
removing_object db o = removing (of_object o) ∷ map (λ (g : Grant). removing (of_grant g)) (filter (λ (g : Grant). g.object == o.stamp) db.grants)

-- the rows of a table go
abbrev pub removing_rows : Database → Object → List Edit
removing_rows db o = map (λ (r : RowRecord). removing (of_row r)) (rows_of o.stamp db.rows)

-- DROP TABLE
unfoldable pub table_dropped : Database → Actor → List ℕ → Result (List Edit) StatusWord
table_dropped db actor name = do
  o ← owned_by actor (of_kind is_table (seen_named db actor name))
  _ ← provided (not (has_view db o)) conditions_not_satisfied
  Ok (removing_object db o ++ removing_rows db o)

-- DROP VIEW, which drops dictionaries too
unfoldable pub view_dropped : Database → Actor → List ℕ → Result (List Edit) StatusWord
view_dropped db actor name = do
  o ← owned_by actor (of_kind (λ kind. not (is_table kind)) (seen_named db actor name))
  _ ← provided (not (has_view db o)) conditions_not_satisfied
  Ok (removing_object db o)
