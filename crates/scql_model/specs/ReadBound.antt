-- How many octets of rows are read for a reading command on a table or a view: at most 64 for each cell of the base table's rows that are passed and reached.
use Rattle.std.specs.Prelude.{◌≡◌, ℕ, ◌+◌, ◌*◌, ◌≤◌, ◌==◌, nat_le, nat_lt, ◌&&◌, Bool, true, false, List, [], filter, Option, Some, None, IfSome, Result, Ok, Err}
use Rattle.std.specs.List.{sum_by}
use Rattle.std.specs.Option.{option_map_or}
use Rattle.scql_base.specs.declared.cursor.Cursor.{Cursor}
use Rattle.scql_base.specs.declared.cursor.Place.{Place}
use Rattle.scql_base.specs.declared.cursor.Place.TheVariants.{NotOpen, At, End}
use Rattle.scql_base.specs.declared.records.Object.{Object}
use Rattle.scql_base.specs.declared.records.RowRecord.{RowRecord}
use Rattle.scql_base.specs.declared.words.Actor.{Actor}
use Rattle.scql_base.specs.declared.words.StatusWord.{StatusWord}
use Rattle.scql_model.specs.Database.{Database, object_stamped, rows_of}
use Rattle.scql_model.specs.Defining.{is_table_or_view}
use Rattle.scql_model.specs.Edits.{cells_of_record, of_row}
use Rattle.scql_model.specs.Moves.{row_behind, rows_under}
use Rattle.scql_model.specs.Objects.{StampedRow}
use Rattle.scql_model.specs.ReadingCommands.{ReadingCommand, declare, open_cursor, next, fetch, fetch_next, get_response}
use Rattle.scql_model.specs.Resolving.{Resolved, resolved_of}

-- a cursor's object is a table or a view, where it is there
abbrev pub IsOnTableOrView : Database → Cursor → Type 0
IsOnTableOrView db c = IfSome (object_stamped db.objects c.object) (λ (o : Object). is_table_or_view o.kind ≡ true)

-- the rows of the table on which an object rests
abbrev pub base_rows : Database → ℕ → List RowRecord
base_rows db object = option_map_or (λ (r : Resolved). rows_of r.table db.rows) (resolved_of db.objects object) []

-- the place of a row that was reached, and the end where there is none
abbrev pub place_reached : Option StampedRow → Place
place_reached None = End
place_reached (Some r) = At r.stamp

-- a stamp lies behind a place, up to the one that was reached or to the end
abbrev pub is_passed : Place → Place → ℕ → Bool
is_passed (At from) (At to) stamp = nat_lt from stamp && nat_le stamp to
is_passed (At from) NotOpen stamp = nat_lt from stamp
is_passed (At from) End stamp = nat_lt from stamp
is_passed NotOpen to stamp = false
is_passed End to stamp = false

-- a stamp is that of a place
abbrev pub is_at : Place → ℕ → Bool
is_at NotOpen stamp = false
is_at (At place) stamp = stamp == place
is_at End stamp = false

-- the cells of the base table's rows whose stamps pass a test
abbrev pub row_cells : Database → ℕ → (ℕ → Bool) → ℕ
row_cells db object passes = sum_by (λ (r : RowRecord). cells_of_record (of_row r)) (filter (λ (r : RowRecord). passes r.stamp) (base_rows db object))

-- the cells of the rows from a place to the next of the cursor's rows, or to the end; where the rows under the cursor are refused none is read
abbrev pub cells_on_the_way : Database → Cursor → Place → Result (List StampedRow) StatusWord → ℕ
cells_on_the_way db c from (Ok rows) = row_cells db c.object (is_passed from (place_reached (row_behind from rows)))
cells_on_the_way db c from (Err word) = 0

abbrev pub cells_at_place : Database → Cursor → Result (List StampedRow) StatusWord → ℕ
cells_at_place db c (Ok rows) = row_cells db c.object (is_at c.place)
cells_at_place db c (Err word) = 0

-- the cells of the rows that a cursor passes and reaches; OPEN starts before all rows
abbrev pub cells_moved : Database → Actor → Cursor → ReadingCommand → ℕ
cells_moved db actor c (declare object columns conditions) = 0
cells_moved db actor c open_cursor = cells_on_the_way db c (At 0) (rows_under db actor c)
cells_moved db actor c next = cells_on_the_way db c c.place (rows_under db actor c)
cells_moved db actor c (fetch le) = cells_at_place db c (rows_under db actor c)
cells_moved db actor c (fetch_next le) = cells_on_the_way db c c.place (rows_under db actor c)
cells_moved db actor c (get_response le) = 0

-- what is read of rows, each at most twice
abbrev pub octets_of_rows : Database → Actor → Option Cursor → ReadingCommand → ℕ
octets_of_rows db actor None command = 0
octets_of_rows db actor (Some c) command = 64 * cells_moved db actor c command

-- a count rises by at least so many
abbrev pub RisesAtLeast : ℕ → ℕ → ℕ → Type 0
RisesAtLeast least before after = before + least ≤ after
