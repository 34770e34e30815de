-- What DROP TABLE and DROP VIEW have in common: which objects they drop, and their edits.
use Rattle.std.specs.Prelude.{◌≡◌, ℕ, not, Bool, List, ◌++◌, Some, Result, Ok}
use Rattle.eeprom.specs.Chip.{Chip}
use Rattle.eeprom.specs.StoreOf.{Slots}
use Rattle.record_store.specs.Held.{Held}
use Rattle.record_store.specs.declared.side.Side.TheVariants.{Working}
use Rattle.scql_base.specs.declared.words.Actor.{Actor}
use Rattle.scql_base.specs.declared.words.StatusWord.{StatusWord}
use Rattle.scql_base.specs.declared.records.Object.{Object}
use Rattle.scql_base.specs.declared.records.ObjectKind.{ObjectKind}
use Rattle.scql_model.specs.Database.{Database, is_table}
use Rattle.scql_model.specs.Defining.{removing_object, removing_rows, table_dropped, view_dropped}
use Rattle.scql_model.specs.Edits.{Edit}
use Rattle.catalog_codec.specs.Catalog.{object_kind}
use Rattle.record_table.specs.Listed.{at_slot}
use Rattle.record_table.specs.Making.{IsHeld}
use Rattle.db_define.specs.declared.dropped.Dropped.{Dropped}
use Rattle.db_define.specs.declared.dropped.Dropped.TheVariants.{Table, View}
use Rattle.db_define.specs.declared.dropped.ToDrop.{ToDrop}

-- whether an object of a kind is dropped so
abbrev pub drops : Dropped → ObjectKind → Bool
drops Table kind = is_table kind
drops View kind = not (is_table kind)

-- the edits that drop an object
abbrev pub dropping : Dropped → Database → Object → List Edit
dropping Table db o = removing_object db o ++ removing_rows db o
dropping View db o = removing_object db o

-- the edits of the command, or the first refusal
abbrev pub dropped : Dropped → Database → Actor → List ℕ → Result (List Edit) StatusWord
dropped Table db actor name = table_dropped db actor name
dropped View db actor name = view_dropped db actor name

-- The object that a command drops, as it was found.
pub record IsToDrop (way : Dropped) (store : Held) (chip : Chip) (actor : Actor) (name : List ℕ) (found : ToDrop) (slots : Slots) : Type 0 where
  -- It stands in the slot, and has the stamp, that were found;
  pub object : Object
  pub at : at_slot object_kind found.slot slots ≡ Some object
  pub stamp : object.stamp ≡ found.stamp
  -- and to drop it is what the command does to the database that the store holds.
  pub drops : (db : Database) → IsHeld store Working chip db → dropped way db actor name ≡ Ok (dropping way db object)
