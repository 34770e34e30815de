-- Which row a cursor reaches, and what a part of an operation answers.
use Rattle.std.specs.Prelude.{◌≡◌, ℕ, ◌<◌, ◌==◌, ◌&&◌, Bool, true, List, [], Option, Some, None, Result, Ok, Err, IfSome, option_map}
use Rattle.std.specs.List.{list_all}
use Rattle.eeprom.specs.Chip.{Chip}
use Rattle.record_store.specs.declared.side.Side.TheVariants.{Working}
use Rattle.scql_base.specs.declared.cursor.Cursor.{Cursor}
use Rattle.scql_base.specs.declared.cursor.Place.{Place}
use Rattle.scql_base.specs.declared.cursor.Place.TheVariants.{At}
use Rattle.scql_base.specs.declared.records.Object.{Object}
use Rattle.scql_base.specs.declared.records.RowRecord.{RowRecord}
use Rattle.scql_base.specs.declared.words.Actor.{Actor}
use Rattle.scql_base.specs.declared.words.StatusWord.{StatusWord}
use Rattle.scql_model.specs.Cursors.{IsCursorOf}
use Rattle.scql_model.specs.Database.{Database, object_stamped}
use Rattle.scql_model.specs.Defining.{is_table_or_view}
use Rattle.scql_model.specs.Edits.{Edit}
use Rattle.scql_model.specs.Matching.{Columns}
use Rattle.scql_model.specs.Resolving.{Resolved, resolved_of}
use Rattle.scql_model.specs.Writing.{columns_of_row, record_at_cursor, written_through}
use Rattle.catalog_codec.specs.Catalog.{row_kind}
use Rattle.catalog_codec.specs.Kinds.{FitsChain}
use Rattle.record_table.specs.Asking.{IsStopOf}
use Rattle.record_table.specs.Listed.{at_slot, slots_of}
use Rattle.record_table.specs.declared.stop.Stop.{Stop}
use Rattle.row_table.specs.Found.{HasRowLike}
use Rattle.row_table.specs.declared.tables.Tables.{Tables}
use Rattle.search_cond.specs.Bound.{Binds, passes}
use Rattle.search_cond.specs.declared.placed.Placed.{Placed}
use Rattle.views.specs.Resolved.{AreBound}
use Rattle.db_read.specs.Scan.{IsRight, found_in}
use Rattle.db_read.specs.declared.scan.Choice.{Choice}

-- what is answered stands for the edits of an outcome, or it is stopped by the outcome's refusal
abbrev pub AnswersEdits : {X : Type 0} → (X → List Edit) → Result (List Edit) StatusWord → Result X Stop → Type 0
AnswersEdits {X} edits outcome (Ok x) = outcome ≡ Ok (edits x)
AnswersEdits {X} edits outcome (Err stop) = IsStopOf outcome stop

-- an outcome is that of an operation through a cursor: through the given one, where that is a cursor of the database, and through some cursor in any case
pub record IsThrough (db : Database) (edits : Option Cursor → Result (List Edit) StatusWord) (cursor : Option Cursor) (outcome : Result (List Edit) StatusWord) : Type 0 where
  pub given : IfSome cursor (IsCursorOf db) → outcome ≡ edits cursor
  pub through : (some : Option Cursor) × (outcome ≡ edits some)

-- the stamp of the row at which a cursor stands
abbrev pub stamp_at : Place → Option ℕ
stamp_at (At stamp) = Some stamp
stamp_at place = None

-- a row is one of a table, meets conditions and passes each filter
abbrev pub is_reached : ℕ → List (List Placed) → List Placed → RowRecord → Bool
is_reached table filters conditions r = r.table == table && (passes r.row conditions && list_all (passes r.row) filters)

-- the object of a stamp rests on a table that has these columns, to which the conditions of each view between are bound
pub record RestsOn (objects : List Object) (stamp : ℕ) (table : ℕ) (columns : Columns) (filters : List (List Placed)) : Type 0 where
  pub is : Resolved
  pub resolved : resolved_of objects stamp ≡ Some is
  pub on : table ≡ is.table
  pub all : columns ≡ is.all
  pub bound : AreBound filters is.all is.filters

-- the cursor without conditions, which reaches every row of its object
abbrev pub without_conditions : Cursor → Cursor
without_conditions c = record c { columns = []; conditions = [] }

-- the object of a cursor was found, and is a table or a view
pub record HasObject (db : Database) (c : Cursor) (found : Option Object) : Type 0 where
  pub object : Object
  pub is : found ≡ Some object
  pub at : object_stamped db.objects c.object ≡ Some object
  pub kind : is_table_or_view object.kind ≡ true

-- a choice is one for a cursor: it has the cursor's object, and what was found before, if anything, is right for the cursor and for someone who acts
pub record IsChosen (db : Database) (c : Cursor) (is_found : Bool) (choice : Choice) : Type 0 where
  pub has : HasObject db c choice.object
  pub actor : Actor
  pub right : IsRight db actor (found_in is_found choice) c

-- and through its object who acts may write by a privilege
pub record IsWritten (db : Database) (actor : Actor) (privilege : ℕ) (c : Cursor) (is_found : Bool) (choice : Choice) : Type 0 where
  pub chosen : IsChosen db c is_found choice
  pub written : written_through db actor privilege c ≡ Ok chosen.has.object

-- What a choice has of the table under a cursor's object, and whether the cursor's conditions could be bound to its columns.
pub record HasTable (db : Database) (c : Cursor) (choice : Choice) (are_bound : Bool) : Type 0 where
  -- The object rests on it,
  pub rests : RestsOn db.objects c.object choice.resolved.table choice.resolved.all choice.resolved.filters.items
  -- and the conditions are bound, if they could be,
  pub binds : are_bound ≡ true → Binds choice.conditions choice.resolved.all c.conditions
  -- as those of a cursor of the database could, which are on columns of its object.
  pub bound : IsCursorOf db c → are_bound ≡ true

-- whatever a cursor's conditions are, a row is the one of its object at which it stands, and the columns are all those of the row's table
pub record IsRowOfObject (db : Database) (c : Cursor) (r : RowRecord) (columns : Columns) : Type 0 where
  pub row : Some r ≡ record_at_cursor db (without_conditions c)
  pub all : columns_of_row db r ≡ columns

-- What a search for the row of a cursor answers: the slot of the row that was read, or none.
pub record FindsRow (db : Database) (c : Cursor) (columns : Columns) (r : RowRecord) (slot : Option ℕ) : Type 0 where
  -- Of a cursor of the database it is the row at which that stands,
  pub row : IsCursorOf db c → option_map (λ _. r) slot ≡ record_at_cursor db c
  -- and of any cursor a row of its object.
  pub of_object : IfSome slot (λ _. IsRowOfObject db c r columns)

-- a row stands in a slot of a working side
pub record IsInSlot (tables : Tables) (chip : Chip) (r : RowRecord) (slot : ℕ) : Type 0 where
  pub there : slot < tables.store.chains.cells
  pub at : IfSome (slots_of tables.store Working chip) (λ slots. Some r ≡ at_slot row_kind slot slots)

-- a row may take the place of the one in a slot of a working side: it has that one's stamp and table, and isn't too long for a record
pub record MayReplace (tables : Tables) (chip : Chip) (r : RowRecord) (slot : ℕ) : Type 0 where
  pub there : slot < tables.store.chains.cells
  pub same : IfSome (slots_of tables.store Working chip) (HasRowLike r slot)
  pub short : FitsChain row_kind r
