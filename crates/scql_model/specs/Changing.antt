-- What a changing command does to a database: its edits, and the new database or the first refusal that applies.
use Rattle.std.specs.Prelude.{List, Option, Result, Err}
use Rattle.scql_base.specs.declared.words.Actor.{Actor}
use Rattle.scql_base.specs.declared.words.StatusWord.{StatusWord}
use Rattle.scql_base.specs.declared.cursor.Cursor.{Cursor}
use Rattle.scql_base.specs.declared.records.ObjectKind.TheVariants.{Table, Dictionary}
use Rattle.scql_base.specs.declared.operation.Operation.{Operation}
use Rattle.scql_base.specs.declared.operation.Operation.TheVariants.{CreateTable, CreateView, CreateDictionary, DropTable, DropView, Grant, Revoke, Insert, Update, Delete, CreateUser, DeleteUser}
use Rattle.scql_base.specs.Words.{instruction_not_supported}
use Rattle.scql_model.specs.Database.{Database}
use Rattle.scql_model.specs.Machine.{Transaction}
use Rattle.scql_model.specs.Refusals.{◌>>=◌}
use Rattle.scql_model.specs.Edits.{Edit, touched_after}
pub use Rattle.scql_model.specs.Edits.{is_counter, takes_stamp, lacks_room, with_edits}
use Rattle.scql_model.specs.Defining.{object_created, view_created, table_dropped, view_dropped}
use Rattle.scql_model.specs.Granting.{privileges_granted, privileges_revoked}
use Rattle.scql_model.specs.Writing.{row_inserted, row_updated, row_deleted}
use Rattle.scql_model.specs.Users.{user_deleted}
use Rattle.scql_model.specs.Creating.{user_added}

-- The edits that a changing command makes for an actor, or the first refusal that applies, but for that of a full card. UPDATE and DELETE
-- are of the row at the cursor. No other operation is a changing command.
unfoldable pub edits_of : Database → Actor → Option Cursor → Operation → Result (List Edit) StatusWord
edits_of db actor cursor (CreateTable name columns) = object_created db actor name (Table columns)
edits_of db actor cursor (CreateView name base columns conditions) = view_created db actor name base columns conditions
edits_of db actor cursor (CreateDictionary name subject) = object_created db actor name (Dictionary subject)
edits_of db actor cursor (DropTable name) = table_dropped db actor name
edits_of db actor cursor (DropView name) = view_dropped db actor name
edits_of db actor cursor (Grant privileges object grantee) = privileges_granted db actor privileges object grantee
edits_of db actor cursor (Revoke privileges object grantee) = privileges_revoked db actor privileges object grantee
edits_of db actor cursor (Insert table row) = row_inserted db actor table row
edits_of db actor cursor (Update changes) = row_updated db actor cursor changes
edits_of db actor cursor Delete = row_deleted db actor cursor
edits_of db actor cursor (CreateUser name profile secret) = user_added db actor name profile secret
edits_of db actor cursor (DeleteUser name) = user_deleted db actor name
edits_of db actor cursor operation = Err instruction_not_supported

-- The new database, or the first refusal that applies.
unfoldable pub change_of : Database → Actor → Option Cursor → Operation → Result Database StatusWord
change_of db actor cursor operation = do
  edits ← edits_of db actor cursor operation
  with_edits db edits

-- A transaction after further edits, which made this database of its working one: the records that they touch are touched.
abbrev pub transaction_after : Database → Transaction → List Edit → Database → Transaction
transaction_after committed t edits db = record t { working = db; touched = touched_after committed db t.touched edits }
