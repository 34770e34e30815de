-- How many octets are read for a reading command. On a table or a view: at most 64 for each cell of the base table's rows that are passed and reached. And for each cell of the
-- records that are searched, 32: those of who acts, of the object and the objects under it, and of the grants on it to who acts and to PUBLIC. Other records are read
-- only where a search goes by a tag and theirs is the same: objects with the tag of a name, and grants with that of an object and a user.
use Rattle.std.specs.Prelude.{ℕ, ◌+◌, ◌*◌, ◌==◌, List, Option}
use Rattle.std.specs.Option.{option_map_or}
use Rattle.eeprom.specs.StoreOf.{cell_size}
use Rattle.record_store.specs.Tags.{name_tag, pair_tag}
use Rattle.scql_base.specs.declared.cursor.Cursor.{Cursor}
use Rattle.scql_base.specs.declared.records.Grant.{Grant}
use Rattle.scql_base.specs.declared.records.Object.{Object}
use Rattle.scql_base.specs.declared.records.User.{User}
use Rattle.scql_base.specs.declared.words.Actor.{Actor}
use Rattle.scql_model.specs.Creating.{actor_stamp}
use Rattle.scql_model.specs.Database.{Database, object_stamped}
use Rattle.scql_model.specs.Edits.{cells_of_record, of_grant, of_object, of_user}
use Rattle.scql_model.specs.ReadBound.{octets_of_rows}
use Rattle.scql_model.specs.ReadingCommands.{ReadingCommand, declare, open_cursor, next, fetch, fetch_next, get_response}
use Rattle.object_table.specs.Named.{object_named}
use Rattle.record_table.specs.Tagged.{cells_where}
use Rattle.views.specs.Below.{cells_under, object_cells}

-- the cells of the user of a stamp
abbrev pub user_cells : List User → ℕ → ℕ
user_cells users stamp = cells_where (λ (u : User). cells_of_record (of_user u)) (λ (u : User). u.stamp == stamp) users

-- of the objects whose names have one tag
abbrev pub objects_alike : List Object → List ℕ → ℕ
objects_alike objects name = cells_where (λ (o : Object). cells_of_record (of_object o)) (λ (o : Object). name_tag o.name == name_tag name) objects

-- of the grants that have the tag of an object and a user, or PUBLIC where that is 0
abbrev pub grants_alike : List Grant → ℕ → ℕ → ℕ
grants_alike grants object grantee = cells_where (λ (g : Grant). cells_of_record (of_grant g)) (λ (g : Grant). pair_tag g.object g.grantee == pair_tag object grantee) grants

-- what is searched to know what who acts may do with an object, where there is one
abbrev pub rights_cells : Database → Actor → Option Object → ℕ
rights_cells db actor o = option_map_or (λ (o : Object). grants_alike db.grants o.stamp 0 + grants_alike db.grants o.stamp (actor_stamp actor)) o 0

-- the object of a name, and whether who acts may select from it
abbrev pub cells_named : Database → Actor → List ℕ → ℕ
cells_named db actor name = objects_alike db.objects name + rights_cells db actor (object_named db.objects name)

-- the object of a stamp, and the same
abbrev pub cells_selected : Database → Actor → ℕ → ℕ
cells_selected db actor stamp = object_cells db.objects stamp + rights_cells db actor (object_stamped db.objects stamp)

-- all objects under the object of a stamp
abbrev pub way_cells : Database → ℕ → ℕ
way_cells db stamp = option_map_or (λ (o : Object). cells_under db.objects o.kind) (object_stamped db.objects stamp) 0

-- the object and these
abbrev pub cells_chosen : Database → Actor → ℕ → ℕ
cells_chosen db actor stamp = cells_selected db actor stamp + way_cells db stamp

-- DECLARE CURSOR looks for an object by its name, all others for that of the cursor
abbrev pub cells_searched : Database → Actor → Option Cursor → ReadingCommand → ℕ
cells_searched db actor cursor (declare object columns conditions) = cells_named db actor object
cells_searched db actor cursor open_cursor = option_map_or (λ (c : Cursor). cells_chosen db actor c.object) cursor 0
cells_searched db actor cursor next = option_map_or (λ (c : Cursor). cells_chosen db actor c.object) cursor 0
cells_searched db actor cursor (fetch le) = option_map_or (λ (c : Cursor). cells_chosen db actor c.object) cursor 0
cells_searched db actor cursor (fetch_next le) = option_map_or (λ (c : Cursor). cells_chosen db actor c.object) cursor 0
cells_searched db actor cursor (get_response le) = option_map_or (λ (c : Cursor). cells_chosen db actor c.object) cursor 0

-- what an operation reads,
abbrev pub octets_for_operation : Database → Actor → Option Cursor → ReadingCommand → ℕ
octets_for_operation db actor cursor command = octets_of_rows db actor cursor command + cell_size * cells_searched db actor cursor command

-- and its command, which looks for who acts, too
abbrev pub octets_for_reading : Database → Actor → Option Cursor → ReadingCommand → ℕ
octets_for_reading db actor cursor command = octets_for_operation db actor cursor command + cell_size * user_cells db.users (actor_stamp actor)
