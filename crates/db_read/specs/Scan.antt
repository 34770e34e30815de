-- What a cursor chooses, once it was found, and whom it is right for.
use Rattle.std.specs.Prelude.{◌≡◌, ℕ, ◌≤◌, Bool, true, false, if◌then◌else◌, List, length, Option, Some, None, Ok, IfSome, is_some, option_map}
use Rattle.scql_base.specs.declared.cursor.Cursor.{Cursor}
use Rattle.scql_base.specs.declared.name_list.TheConstants.NameList.{MOST}
use Rattle.scql_base.specs.declared.records.Object.{Object}
use Rattle.scql_base.specs.declared.words.Actor.{Actor}
use Rattle.scql_model.specs.Database.{Database}
use Rattle.scql_model.specs.Defining.{is_table_or_view}
use Rattle.scql_model.specs.Matching.{Columns}
use Rattle.scql_model.specs.Objects.{columns_of}
use Rattle.scql_model.specs.Resolving as model
use Rattle.scql_model.specs.Resolving.{resolved_of}
use Rattle.scql_model.specs.Rights.{seen_stamped}
use Rattle.search_cond.specs.Bound.{Binds}
use Rattle.search_cond.specs.declared.placed.Placed.{Placed}
use Rattle.views.specs.Resolved.{AreBound, ArePlaces, Reaches}
use Rattle.views.specs.declared.resolving.Resolved.{Resolved}
use Rattle.db_read.specs.Answered.{selectable}
use Rattle.db_read.specs.declared.scan.Choice.{Choice}

-- what a cursor chooses of its object: the stamp of the table under that and all its columns, the places of the columns that are shown among them, the cursor's
-- conditions, and those of each view between; of a dictionary all its columns, these places and the cursor's conditions
pub record Found : Type 0 where
  pub object : Object
  pub table : ℕ
  pub all : Columns
  pub places : List ℕ
  pub conditions : List Placed
  pub filters : List (List Placed)

abbrev pub found_of : Object → Choice → Found
found_of o k = record { object = o; table = k.resolved.table; all = k.resolved.all; places = k.places.items; conditions = k.conditions; filters = k.resolved.filters.items }

-- what was found, if anything
abbrev pub found_in : Bool → Choice → Option Found
found_in is_found k = if is_found then option_map (λ (o : Object). found_of o k) k.object else None

-- whether its rows are of a table
abbrev pub is_of_table : Found → Bool
is_of_table f = is_table_or_view f.object.kind

-- A cursor goes over rows of a table for who acts: its object, from which the actor may select, rests on the table; its columns have these places among the
-- table's; and its conditions and those of the views between are bound to the table's columns.
pub record GoesOver (db : Database) (actor : Actor) (c : Cursor) (p : Found) : Type 0 where
  pub seen : model.Resolved
  pub selects : selectable db actor (seen_stamped db actor c.object) ≡ Ok p.object
  pub resolved : resolved_of db.objects p.object.stamp ≡ Some seen
  pub table : p.table ≡ seen.table
  pub all : p.all ≡ seen.all
  pub places : ArePlaces p.places seen.all c.columns
  pub conditions : Binds p.conditions seen.all c.conditions
  pub filters : AreBound p.filters seen.all seen.filters
  pub few : length c.columns ≤ MOST

-- It goes over those of a dictionary: its object, from which the actor may select, has all the columns, among which its own have these places, and to which its
-- conditions are bound.
pub record GoesOverTold (db : Database) (actor : Actor) (c : Cursor) (p : Found) : Type 0 where
  pub selects : selectable db actor (seen_stamped db actor c.object) ≡ Ok p.object
  pub all : p.all ≡ columns_of p.object.kind
  pub places : ArePlaces p.places p.all c.columns
  pub conditions : Binds p.conditions p.all c.conditions
  pub few : length c.columns ≤ MOST

-- what was found is what a cursor chooses for who acts
pub record IsFor (db : Database) (actor : Actor) (c : Cursor) (p : Found) : Type 0 where
  pub table : is_of_table p ≡ true → GoesOver db actor c p
  pub told : is_of_table p ≡ false → GoesOverTold db actor c p

-- the same of what was chosen
abbrev pub IsChosenFor : Database → Actor → Cursor → Choice → Type 0
IsChosenFor db actor c k = (is_some k.object ≡ true) × IfSome k.object (λ (o : Object). IsFor db actor c (found_of o k))

-- what a scan has found, if anything, is right for a cursor
abbrev pub IsRight : Database → Actor → Option Found → Cursor → Type 0
IsRight db actor scan c = IfSome scan (IsFor db actor c)

-- and for the cursor of a session, if there is one
abbrev pub IsRightFor : Database → Actor → Option Found → Option Cursor → Type 0
IsRightFor db actor scan cursor = IfSome cursor (IsRight db actor scan)

-- a table or a view rests on this table, under the conditions of each view between
pub record RestsOn (objects : List Object) (o : Object) (answer : Resolved) : Type 0 where
  pub seen : model.Resolved
  pub resolved : resolved_of objects o.stamp ≡ Some seen
  pub reaches : Reaches answer seen

-- of a table or a view the table is found on which it rests, and of a dictionary its columns
pub record IsResolved (objects : List Object) (o : Object) (answer : Resolved) : Type 0 where
  pub table : is_table_or_view o.kind ≡ true → RestsOn objects o answer
  pub told : is_table_or_view o.kind ≡ false → answer.all ≡ columns_of o.kind
