-- Commands that write rows (ISO/IEC 7816-7, INSERT, UPDATE, DELETE): for each the edits that it makes, or the first refusal that applies.
use Rattle.std.specs.Prelude.{ℕ, ◌==◌, nat_le, List, [], ◌∷◌, length, map, Option, None, option_and_then, Result, Ok}
use Rattle.std.specs.List.{find}
use Rattle.std.specs.Option.{option_map_or}
use Rattle.std.specs.Str.{bytes_eq}
use Rattle.scql_base.specs.declared.words.Actor.{Actor}
use Rattle.scql_base.specs.declared.words.StatusWord.{StatusWord}
use Rattle.scql_base.specs.declared.records.RowRecord.{RowRecord}
use Rattle.scql_base.specs.declared.records.Object.{Object}
use Rattle.scql_base.specs.declared.cursor.Cursor.{Cursor}
use Rattle.scql_base.specs.declared.cursor.Place.{Place}
use Rattle.scql_base.specs.declared.cursor.Place.TheVariants.{At}
use Rattle.scql_base.specs.Row.{row_size}
use Rattle.scql_base.specs.Words.{conditions_not_satisfied, security_not_satisfied, not_found, wrong_data, record_not_found}
use Rattle.scql_model.specs.Database.{Database, is_table, are_among, object_stamped}
use Rattle.scql_model.specs.Matching.{Columns, Values}
use Rattle.scql_model.specs.Objects.{StampedRow, columns_of}
use Rattle.scql_model.specs.Contents.{Contents, contents_of}
use Rattle.scql_model.specs.Rights.{insert_privilege, update_privilege, delete_privilege, holds, seen_named, seen_stamped}
use Rattle.scql_model.specs.Moves.{opened, chosen, row_at}
use Rattle.scql_model.specs.Refusals.{◌>>=◌, or_refused, provided}
use Rattle.scql_model.specs.Edits.{Edit, of_row, making, changing, removing}
use Rattle.scql_model.specs.Defining.{of_kind, is_table_or_view}

-- INSERT
unfoldable pub row_inserted : Database → Actor → List ℕ → Values → Result (List Edit) StatusWord
row_inserted db actor name values = do
  o ← or_refused (of_kind is_table (seen_named db actor name)) not_found
  _ ← provided (holds db actor o insert_privilege) security_not_satisfied
  _ ← provided (length values == length (columns_of o.kind)) wrong_data
  Ok (making db (of_row (record { stamp = db.next; table = o.stamp; row = values })))

-- the object whose rows may be changed through a cursor: a table or a view, on which the actor holds the privilege
abbrev pub written_through : Database → Actor → ℕ → Cursor → Result Object StatusWord
written_through db actor privilege cursor = do
  o ← or_refused (seen_stamped db actor cursor.object) not_found
  _ ← provided (is_table_or_view o.kind) conditions_not_satisfied
  _ ← provided (holds db actor o privilege) security_not_satisfied
  Ok o

-- the row at which a cursor stands, if it is among its object's rows and meets its conditions
abbrev pub row_at_place : Contents → Cursor → Place → Option StampedRow
row_at_place contents cursor (At stamp) = row_at stamp (chosen contents cursor)
row_at_place contents cursor place = None

-- the record of that row, which is a row of a table
abbrev pub record_at_cursor : Database → Cursor → Option RowRecord
record_at_cursor db cursor =
    option_and_then (λ (r : StampedRow). find (λ (s : RowRecord). s.stamp == r.stamp) db.rows) (row_at_place (contents_of db cursor.object) cursor cursor.place)

-- the columns of the table of a row
abbrev pub columns_of_row : Database → RowRecord → Columns
columns_of_row db r = option_map_or (λ (o : Object). columns_of o.kind) (object_stamped db.objects r.table) []

-- an assignment to a column of a row: the column's name, and its new value
abbrev pub Assignment : Type 0
Assignment = List ℕ × List ℕ

-- the value in a column, after assignments
abbrev pub assigned : List Assignment → List ℕ → List ℕ → List ℕ
assigned assignments column value = option_map_or (λ (a : Assignment). a.1) (find (λ (a : Assignment). bytes_eq column a.0) assignments) value

abbrev pub all_assigned : List Assignment → Columns → Values → Values
all_assigned assignments (column ∷ columns) (value ∷ values) = assigned assignments column value ∷ all_assigned assignments columns values
all_assigned assignments columns values = values

-- a row after assignments; its stamp and its table stay
abbrev pub row_after : Database → List Assignment → RowRecord → RowRecord
row_after db assignments r = record r { row = all_assigned assignments (columns_of_row db r) r.row }

-- UPDATE
unfoldable pub row_updated : Database → Actor → Option Cursor → List Assignment → Result (List Edit) StatusWord
row_updated db actor cursor assignments = do
  cursor ← opened cursor
  o ← written_through db actor update_privilege cursor
  _ ← provided (are_among (map (λ (a : Assignment). a.0) assignments) (columns_of o.kind)) not_found
  r ← or_refused (record_at_cursor db cursor) record_not_found
  _ ← provided (nat_le (row_size (row_after db assignments r).row) db.limit) wrong_data
  Ok (changing (of_row (row_after db assignments r)) ∷ [])

-- DELETE
unfoldable pub row_deleted : Database → Actor → Option Cursor → Result (List Edit) StatusWord
row_deleted db actor cursor = do
  cursor ← opened cursor
  _ ← written_through db actor delete_privilege cursor
  r ← or_refused (record_at_cursor db cursor) record_not_found
  Ok (removing (of_row r) ∷ [])
