-- The records of a database: those of one kind between the others, and the cells of each kind.
use Rattle.std.proofs.Common.{List, ◌≡◌, ◌+◌, ◌≤◌, [], ◌++◌, map, refl, append_assoc, arith}
use Rattle.std.specs.List.{sum_by}
use Rattle.std.proofs.lemmas.List.{append-nil}
use Rattle.scql_model.specs.Records.{user_record, object_spelling, grant_record, row_record}
use Rattle.scql_model.specs.Stored.{StoredRecord, cells_for_octets}
use Rattle.scql_model.specs.Database.{Database, IsValid, records_of, counter_cells, weight, stored_user, stored_object, stored_grant, stored_row}
use Rattle.scql_model.proofs.Stored.{cells_of_records-around, cells_of_records-kind}

-- the records before those of a kind, and behind them
abbrev pub before_rows : Database → List StoredRecord
before_rows db = map stored_user db.users ++ (map stored_object db.objects ++ map stored_grant db.grants)

abbrev pub before_grants : Database → List StoredRecord
before_grants db = map stored_user db.users ++ map stored_object db.objects

abbrev pub behind_grants : Database → List StoredRecord
behind_grants db = map stored_row db.rows

abbrev pub before_objects : Database → List StoredRecord
before_objects db = map stored_user db.users

abbrev pub behind_objects : Database → List StoredRecord
behind_objects db = map stored_grant db.grants ++ behind_grants db

abbrev pub behind_users : Database → List StoredRecord
behind_users db = map stored_object db.objects ++ behind_objects db

-- so the records stand as the laws of stored records take them
pub records_of-users : (db : Database) → records_of db ≡ [] ++ (map stored_user db.users ++ behind_users db)
records_of-users db = refl

pub records_of-objects : (db : Database) → records_of db ≡ before_objects db ++ (map stored_object db.objects ++ behind_objects db)
records_of-objects db = refl

pub records_of-grants : (db : Database) → records_of db ≡ before_grants db ++ (map stored_grant db.grants ++ behind_grants db)
records_of-grants db = rw append_assoc refl

pub records_of-rows : (db : Database) → records_of db ≡ before_rows db ++ (map stored_row db.rows ++ [])
records_of-rows db = simp (append_assoc, append-nil)

-- The weight is the counter's cells and those of each kind.
pub weight-of_kinds : (db : Database) → weight db ≡ counter_cells db + (sum_by (λ u. cells_for_octets (user_record.spell u)) db.users
    + (sum_by (λ o. cells_for_octets (object_spelling o)) db.objects
    + (sum_by (λ g. cells_for_octets (grant_record.spell g)) db.grants + sum_by (λ r. cells_for_octets (row_record.spell r)) db.rows)))
weight-of_kinds db =
    let a = cells_of_records-around stored_user [] (behind_users db) db.users in
    let b = cells_of_records-around stored_object [] (behind_objects db) db.objects in
    let c = cells_of_records-around stored_grant [] (behind_grants db) db.grants in
    let d = cells_of_records-kind stored_row db.rows in
    omega arith

-- so in a valid database it is at most the card's cells
pub weight-valid : (db : Database) → IsValid db → weight db ≤ db.cells
weight-valid db valid = valid.stored.room
