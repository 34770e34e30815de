-- What is left to ask of the records of a database, where each is within its limits and their stamps rise.
use Rattle.std.specs.Prelude.{◌≡◌, ℕ, ◌≤◌, ◌==◌, nat_le, nat_lt, not, ◌&&◌, ◌||◌, Bool, true, false, List, [], ◌∷◌, Some, length, map, filter}
use Rattle.std.specs.List.{list_all}
use Rattle.std.specs.Str.{bytes_eq}
use Rattle.eeprom.specs.StoreOf.{fewest_cells, most_cells}
use Rattle.scql_base.specs.declared.records.TheConstants.User.{ALL_TRIES}
use Rattle.scql_base.specs.declared.records.User.{User}
use Rattle.scql_base.specs.declared.row.TheConstants.Row.{LARGEST, LARGEST_UNMIGRATED}
use Rattle.scql_base.specs.declared.records.Grant.{Grant}
use Rattle.scql_base.specs.declared.records.Object.{Object}
use Rattle.scql_base.specs.declared.records.RowRecord.{RowRecord}
use Rattle.scql_model.specs.Records.{counter_record, user_record, object_fits, grant_record, row_record}
use Rattle.scql_model.specs.Database.{Database, weight}
use Rattle.scql_model.specs.Objects.{object_stamped}
use Rattle.scql_model.specs.Rules.{owner_name, public_name, is_db_o, is_made_by_maker, has_maker, has_all_tries, are_different, is_founded, is_short, has_object_and_grantee, are_apart_by, is_of_pair, has_table, is_within_limit}
use Rattle.card.specs.declared.kept_record.KeptRecord.{KeptRecord}
use Rattle.card.specs.declared.kept_record.KeptRecord.TheVariants as kept_as
use Rattle.card.specs.KeptRecords.{stamp_of}

-- a stamp was given out before the next one
abbrev pub is_stamp_before : ℕ → ℕ → Bool
is_stamp_before next stamp = nat_le 1 stamp && nat_lt stamp next

-- a user isn't PUBLIC, its owner may own it, and without a secret it has all tries
abbrev pub is_right_user : List User → User → Bool
is_right_user users u = not (bytes_eq public_name u.name) && has_maker users u && has_all_tries u

-- who owns an object may, and what it rests on is there
abbrev pub is_right_object : List User → List Object → Object → Bool
is_right_object users objects o = is_made_by_maker users o.owner && is_founded objects o

-- an object is the one of its stamp
abbrev pub IsOfItsStamp : List Object → Object → Type 0
IsOfItsStamp objects o = object_stamped objects o.stamp ≡ Some o

-- whether a user is OWNER as a card is made with it
abbrev pub is_owner : User → Bool
is_owner u =
    (u.stamp == 1) && bytes_eq u.name owner_name && is_db_o u && (u.owner == 1) && (length u.secret == 0) && (u.tries == ALL_TRIES)

-- whether the users are OWNER and nobody else
abbrev pub is_owner_alone : List User → Bool
is_owner_alone [] = false
is_owner_alone (u ∷ []) = is_owner u
is_owner_alone (u ∷ v ∷ users) = false

-- These are the users of a valid database, and so on for each kind.
abbrev pub are_valid_users : ℕ → List User → Bool
are_valid_users next users =
    list_all (λ (u : User). is_stamp_before next u.stamp && is_right_user users u) users && is_owner_alone (filter is_db_o users)
    && are_different (map (λ (u : User). u.name) users)

abbrev pub are_valid_objects : ℕ → List User → List Object → Bool
are_valid_objects next users objects =
    list_all (λ (o : Object). is_stamp_before next o.stamp && is_right_object users objects o) objects
    && are_different (map (λ (o : Object). o.name) objects)

abbrev pub are_valid_grants : ℕ → List User → List Object → List Grant → Bool
are_valid_grants next users objects grants =
    list_all (λ (g : Grant). is_stamp_before next g.stamp && has_object_and_grantee users objects g) grants && are_apart_by is_of_pair grants

abbrev pub are_valid_rows : ℕ → List Object → List RowRecord → Bool
are_valid_rows next objects rows = list_all (λ (r : RowRecord). is_stamp_before next r.stamp && has_table objects r) rows

-- the records of each kind are those of a valid database with this next stamp
abbrev pub is_valid_database : ℕ → List User → List Object → List Grant → List RowRecord → Bool
is_valid_database next users objects grants rows =
    nat_le 2 next && are_valid_users next users && are_valid_objects next users objects && are_valid_grants next users objects grants
    && are_valid_rows next objects rows

-- a record meets the rules of its kind
abbrev pub meets_rules : List User → List Object → KeptRecord → Bool
meets_rules users objects (kept_as.User u) = is_right_user users u
meets_rules users objects (kept_as.Object o) = is_right_object users objects o
meets_rules users objects (kept_as.Grant g) = has_object_and_grantee users objects g
meets_rules users objects (kept_as.Row slot r) = has_table objects r

-- its stamp was given out, and it meets them
abbrev pub is_right_record : ℕ → List User → List Object → KeptRecord → Bool
is_right_record next users objects r = is_stamp_before next (stamp_of r) && meets_rules users objects r

-- What is tested where each record is read: it is within its limits, and all records have room.
pub record HasFittingRecords (db : Database) : Type 0 where
  pub cells : (fewest_cells ≤ db.cells) × (db.cells ≤ most_cells)
  pub limit : (db.limit == LARGEST_UNMIGRATED || db.limit == LARGEST) ≡ true
  pub room : weight db ≤ db.cells
  pub counter : counter_record.fits db.next ≡ true
  pub users : list_all user_record.fits db.users ≡ true
  pub objects : list_all object_fits db.objects ≡ true
  pub object_lengths : list_all is_short db.objects ≡ true
  pub grants : list_all grant_record.fits db.grants ≡ true
  pub rows : list_all row_record.fits db.rows ≡ true
  pub lengths : list_all (is_within_limit db.limit) db.rows ≡ true
