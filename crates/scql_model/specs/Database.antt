-- A database: its records, what makes it valid, and the one that a card is made with.
use Rattle.std.specs.Prelude.{◌≡◌, ℕ, ◌+◌, ◌≤◌, ◌==◌, ◌||◌, true, List, [], ◌∷◌, ◌++◌, map}
use Rattle.eeprom.specs.StoreOf.{fewest_cells, most_cells}
use Rattle.scql_base.specs.declared.row.TheConstants.Row.{LARGEST, LARGEST_UNMIGRATED}
use Rattle.scql_base.specs.declared.records.User.{User}
use Rattle.scql_base.specs.declared.records.Object.{Object}
use Rattle.scql_base.specs.declared.records.Grant.{Grant}
use Rattle.scql_base.specs.declared.records.RowRecord.{RowRecord}
use Rattle.scql_model.specs.Records.{counter_record, AnyRecord, of_user, of_object, of_grant, of_row, record_stamp, record_spelling}
use Rattle.scql_model.specs.Stored.{StoredRecord, IsStored, cells_for_octets, cells_of_records}
use Rattle.scql_model.specs.Rules.{AreUsers, AreObjects, AreGrants, AreRows}
pub use Rattle.scql_model.specs.Rules.{are_different, are_among, owner_name, owner, public_name, user_stamped, is_named, user_named, is_maker, is_db_o, is_made_by_maker, has_maker, has_all_tries, object_stamped, is_table, are_named_among, rows_of}

-- the number of cells of its card, the most octets that a row may have, the stamp that the next record takes, and the records in rising
-- order of their stamps
pub record Database : Type 0 where
  pub cells : ℕ
  pub limit : ℕ
  pub next : ℕ
  pub users : List User
  pub objects : List Object
  pub grants : List Grant
  pub rows : List RowRecord

-- the database with which a card is made: OWNER alone
abbrev pub fresh : ℕ → Database
fresh n = record { cells = n; limit = LARGEST_UNMIGRATED; next = 2; users = owner ∷ []; objects = []; grants = []; rows = [] }

-- how a record is stored
abbrev pub stored : AnyRecord → StoredRecord
stored r = record { stamp = record_stamp r; octets = record_spelling r }

abbrev pub stored_user : User → StoredRecord
stored_user u = stored (of_user u)

abbrev pub stored_object : Object → StoredRecord
stored_object o = stored (of_object o)

abbrev pub stored_grant : Grant → StoredRecord
stored_grant g = stored (of_grant g)

abbrev pub stored_row : RowRecord → StoredRecord
stored_row r = stored (of_row r)

-- all records but the counter, and their stamps
abbrev pub records_of : Database → List StoredRecord
records_of db = map stored_user db.users ++ (map stored_object db.objects ++ (map stored_grant db.grants ++ map stored_row db.rows))

abbrev pub stamps : Database → List ℕ
stamps db = map (λ (r : StoredRecord). r.stamp) (records_of db)

-- how many cells the counter takes, and how many all records with it
abbrev pub counter_cells : Database → ℕ
counter_cells db = cells_for_octets (counter_record.spell db.next)

abbrev pub weight : Database → ℕ
weight db = counter_cells db + cells_of_records (records_of db)

-- A database that a card may hold.
pub record IsValid (db : Database) : Type 0 where
  -- a card has so many cells
  pub cells : (fewest_cells ≤ db.cells) × (db.cells ≤ most_cells)
  -- the limit of rows is that of a new card, or of a migrated one
  pub limit : (db.limit == LARGEST_UNMIGRATED || db.limit == LARGEST) ≡ true
  -- the next stamp is at least 2, since OWNER has stamp 1, and a number of four octets
  pub next : 2 ≤ db.next
  pub counter : counter_record.fits db.next ≡ true
  -- the records have room, and stamps of their own
  pub stored : IsStored db.cells (counter_cells db) db.next (records_of db)
  -- and each kind meets its rules
  pub users : AreUsers db.users
  pub objects : AreObjects db.users db.objects
  pub grants : AreGrants db.users db.objects db.grants
  pub rows : AreRows db.limit db.objects db.rows
