-- The database to which an image opens.
use Rattle.std.specs.Prelude.{◌≡◌, ◌⊎◌, ℕ, ◌||◌, Bool, true, List, [], ◌∷◌, length, Option, Some, None, is_some}
use Rattle.std.specs.List.{list_all}
use Rattle.eeprom.specs.StoreOf.{Slots, Stored, store_of}
use Rattle.eeprom.specs.Slots.{kept}
use Rattle.scql_base.specs.declared.records.User.{User}
use Rattle.scql_base.specs.declared.records.Object.{Object}
use Rattle.scql_base.specs.declared.records.Grant.{Grant}
use Rattle.scql_base.specs.declared.records.RowRecord.{RowRecord}
use Rattle.scql_model.specs.Records.{counter_in, user_in, object_in, grant_in, row_in}
use Rattle.scql_model.specs.Database.{Database, IsValid}

-- an empty slot, or the spelling of a record of some kind
abbrev pub is_spelled : Option (List ℕ) → Bool
is_spelled None = true
is_spelled (Some octets) = is_some (counter_in octets) || is_some (user_in octets) || is_some (object_in octets) || is_some (grant_in octets) || is_some (row_in octets)

-- the counter counts as a record of stamp 0
abbrev pub counter_stamp : ℕ → ℕ
counter_stamp next = 0

-- The database's records are those in the slots: of each kind those that its reader gives, in rising order of their stamps.
pub record Holds (slots : Slots) (db : Database) : Type 0 where
  pub cells : length slots ≡ db.cells
  pub spelled : list_all is_spelled slots ≡ true
  pub counter : kept counter_stamp counter_in slots ≡ db.next ∷ []
  pub users : kept (λ (u : User). u.stamp) user_in slots ≡ db.users
  pub objects : kept (λ (o : Object). o.stamp) object_in slots ≡ db.objects
  pub grants : kept (λ (g : Grant). g.stamp) grant_in slots ≡ db.grants
  pub rows : kept (λ (r : RowRecord). r.stamp) row_in slots ≡ db.rows

-- The image has a store whose slots hold a valid database with its row limit.
pub record Opens (image : List ℕ) (db : Database) : Type 0 where
  pub store : Stored
  pub stored : store_of image ≡ Some store
  pub limit : db.limit ≡ store.row_limit
  pub holds : Holds store.slots db
  pub valid : IsValid db

-- The image opens to one of these databases.
abbrev pub OpensToOneOf : List Database → List ℕ → Type 0
OpensToOneOf [] image = ⊥
OpensToOneOf (db ∷ dbs) image = Opens image db ⊎ OpensToOneOf dbs image
