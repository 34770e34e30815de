-- What a cursor is over, and who may read it.
use Rattle.std.specs.Prelude.{◌≡◌, true, Ok, Option, Some}
use Rattle.std.specs.List.{find}
use Rattle.scql_base.specs.declared.cursor.Cursor.{Cursor}
use Rattle.scql_base.specs.declared.records.Object.{Object}
use Rattle.scql_base.specs.declared.words.Actor.{Actor}
use Rattle.scql_model.specs.Contents.{Contents, contents_of}
use Rattle.scql_model.specs.Cursors.{IsCursorOf}
use Rattle.scql_model.specs.Database.{Database, are_among, are_different}
use Rattle.scql_model.specs.Matching.{Columns}
use Rattle.scql_model.specs.Moves as moves
use Rattle.scql_model.specs.Objects.{StampedRow, object_stamped}
use Rattle.plain_database.specs.Sought.{admits}
use Rattle.plain_database.specs.declared.sought.Sought.{Sought}

-- The columns that a cursor wants of these.
pub record AreColumnsOf (all columns : Columns) : Type 0 where
  -- no two are the same
  pub different : are_different columns ≡ true
  -- and each is there
  pub among : are_among columns all ≡ true

-- of what an object contains, the first row that is sought and that a cursor shows
abbrev pub sought_among : Cursor → Sought → Contents → Option StampedRow
sought_among c sought contents = find (λ (r : StampedRow). admits sought r.stamp) (moves.chosen contents c)

-- What a cursor of a database is over.
pub record IsCursorOver (db : Database) (c : Cursor) (o : Object) : Type 0 where
  -- the cursor is one of the database
  pub cursor : IsCursorOf db c
  -- and its object is this one
  pub object : object_stamped db.objects c.object ≡ Some o

-- A session's cursor that was opened.
pub record IsOpened (cursor : Option Cursor) (c : Cursor) : Type 0 where
  -- the session has this cursor
  pub there : cursor ≡ Some c
  -- which was opened
  pub opened : moves.opened cursor ≡ Ok c

-- What an actor may read through a cursor.
pub record IsReadable (db : Database) (actor : Actor) (c : Cursor) (o : Object) : Type 0 where
  -- the cursor's object is this one
  pub object : object_stamped db.objects c.object ≡ Some o
  -- and its rows are those that the cursor shows
  pub rows : moves.rows_under db actor c ≡ Ok (moves.chosen (contents_of db c.object) c)
