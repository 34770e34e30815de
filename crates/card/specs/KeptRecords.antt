-- The records of a database, of whatever kind, as a card is opened.
use Rattle.std.specs.Prelude.{◌≡◌, ℕ, List, Option, Some, None}
use Rattle.std.specs.List.{filter_map}
use Rattle.scql_base.specs.declared.records.User.{User}
use Rattle.scql_base.specs.declared.records.Object.{Object}
use Rattle.scql_base.specs.declared.records.Grant.{Grant}
use Rattle.scql_base.specs.declared.records.RowRecord.{RowRecord}
use Rattle.eeprom.specs.Slots.{Rises}
use Rattle.scql_model.specs.Database.{Database}
use Rattle.row_index.specs.Places.{place_of}
use Rattle.row_index.specs.declared.place.RowPlace.{RowPlace}
use Rattle.card.specs.declared.kept_record.KeptRecord.{KeptRecord}
use Rattle.card.specs.declared.kept_record.KeptRecord.TheVariants as kept_as

-- its stamp
abbrev pub stamp_of : KeptRecord → ℕ
stamp_of (kept_as.User u) = u.stamp
stamp_of (kept_as.Object o) = o.stamp
stamp_of (kept_as.Grant g) = g.stamp
stamp_of (kept_as.Row slot r) = r.stamp

-- what it is, where it is of a kind
abbrev pub as_user : KeptRecord → Option User
as_user (kept_as.User u) = Some u
as_user r = None

abbrev pub as_object : KeptRecord → Option Object
as_object (kept_as.Object o) = Some o
as_object r = None

abbrev pub as_grant : KeptRecord → Option Grant
as_grant (kept_as.Grant g) = Some g
as_grant r = None

abbrev pub as_row : KeptRecord → Option RowRecord
as_row (kept_as.Row slot row) = Some row
as_row r = None

-- those of each kind, in their order
abbrev pub users_in : List KeptRecord → List User
users_in records = filter_map as_user records

abbrev pub objects_in : List KeptRecord → List Object
objects_in records = filter_map as_object records

abbrev pub grants_in : List KeptRecord → List Grant
grants_in records = filter_map as_grant records

abbrev pub rows_in : List KeptRecord → List RowRecord
rows_in records = filter_map as_row records

-- where a row stands, and where the rows among records do, in their order
abbrev pub as_place : KeptRecord → Option RowPlace
as_place (kept_as.Row slot row) = Some (place_of slot row)
as_place r = None

abbrev pub places_in : List KeptRecord → List RowPlace
places_in records = filter_map as_place records

-- These are the records of a database, in rising order of their stamps.
pub record AreRecordsOf (db : Database) (records : List KeptRecord) : Type 0 where
  pub rises : Rises stamp_of records
  pub users : users_in records ≡ db.users
  pub objects : objects_in records ≡ db.objects
  pub grants : grants_in records ≡ db.grants
  pub rows : rows_in records ≡ db.rows
