-- Which of a cursor's rows is sought.
use Rattle.std.specs.Prelude.{◌≡◌, ℕ, ◌≤◌, ◌==◌, ◌&&◌, nat_lt, Bool, true, List, Option, Some}
use Rattle.std.specs.List.{find}
use Rattle.scql_base.specs.Row.{row_size}
use Rattle.scql_base.specs.declared.condition.Condition.{Condition}
use Rattle.scql_base.specs.declared.cursor.Cursor.{Cursor}
use Rattle.scql_base.specs.declared.records.RowRecord.{RowRecord}
use Rattle.scql_base.specs.declared.row.TheConstants.Row.{LARGEST}
use Rattle.scql_model.specs.Contents.{contents_of, cut_to}
use Rattle.scql_model.specs.Cursors.{IsCursorOf}
use Rattle.scql_model.specs.Database.{Database}
use Rattle.scql_model.specs.Matching.{Columns, matches}
use Rattle.scql_model.specs.Moves.{chosen}
use Rattle.scql_model.specs.Objects.{StampedRow}
use Rattle.scql_model.specs.Resolving.{Resolved, passes_filters, resolved_of}
use Rattle.plain_database.specs.declared.seen.ShownRow.{ShownRow}
use Rattle.plain_database.specs.declared.sought.Sought.{Sought}
use Rattle.plain_database.specs.declared.sought.Sought.TheVariants.{First, Behind, At}

-- whether the row of a stamp may be the one
abbrev pub admits : Sought → ℕ → Bool
admits First stamp = true
admits (Behind before) stamp = nat_lt before stamp
admits (At place) stamp = stamp == place

-- the first such row among those that a cursor shows
abbrev pub sought_row : Database → Cursor → Sought → Option StampedRow
sought_row db c sought = find (λ (r : StampedRow). admits sought r.stamp) (chosen (contents_of db c.object) c)

-- a row of the table passes what is resolved and the conditions
abbrev pub is_in_table : Resolved → List Condition → RowRecord → Bool
is_in_table resolved conditions r = r.table == resolved.table && (matches resolved.all conditions r.row && passes_filters resolved r.row)

-- and may be the one
abbrev pub is_sought : Resolved → List Condition → Sought → RowRecord → Bool
is_sought resolved conditions sought r =
    r.table == resolved.table && (admits sought r.stamp && (matches resolved.all conditions r.row && passes_filters resolved r.row))

-- What is resolved for a cursor of a database.
pub record IsResolvedFor (db : Database) (c : Cursor) (r : Resolved) : Type 0 where
  -- the cursor is one of the database
  pub cursor : IsCursorOf db c
  -- and its object is what is resolved
  pub resolved : resolved_of db.objects c.object ≡ Some r

-- a record is a row of the database
abbrev pub IsRowOf : Database → RowRecord → Type 0
IsRowOf db r = find (λ (s : RowRecord). s.stamp == r.stamp) db.rows ≡ Some r

-- A record of which a row is shown.
pub record IsShownRow (db : Database) (resolved : Resolved) (wanted : Columns) (r : RowRecord) : Type 0 where
  -- it is a row of the database
  pub among : IsRowOf db r
  -- in the table that is resolved
  pub table : r.table ≡ resolved.table
  -- and cut to the wanted columns no larger than a row may be
  pub fits : row_size (cut_to resolved.all wanted r.row) ≤ LARGEST

-- a row of the table as it is shown
abbrev pub row_through : Resolved → Columns → RowRecord → StampedRow
row_through resolved wanted r = record { stamp = r.stamp; values = cut_to resolved.all wanted r.row }

-- a row that is shown
abbrev pub row_shown : ShownRow → StampedRow
row_shown r = record { stamp = r.stamp; values = r.values }
