-- The rules of a valid database as tests of its records.
use Rattle.std.specs.Prelude.{ℕ, ◌==◌, nat_le, nat_lt, not, ◌&&◌, ◌||◌, Bool, true, false, List, [], ◌∷◌, ◌++◌, length, map, filter}
use Rattle.std.specs.List.{list_all}
use Rattle.std.specs.Str.{bytes_eq}
use Rattle.eeprom.specs.StoreOf.{fewest_cells, most_cells, is_distinct}
use Rattle.scql_base.specs.declared.records.User.{User}
use Rattle.scql_base.specs.declared.records.Object.{Object}
use Rattle.scql_base.specs.declared.records.Grant.{Grant}
use Rattle.scql_base.specs.declared.records.RowRecord.{RowRecord}
use Rattle.scql_base.specs.declared.records.TheConstants.User.{ALL_TRIES}
use Rattle.scql_base.specs.declared.row.TheConstants.Row.{LARGEST, LARGEST_UNMIGRATED}
use Rattle.scql_model.specs.Records.{counter_record}
use Rattle.scql_model.specs.Database.{Database}
use Rattle.scql_model.specs.Rules.{are_apart_by, owner_name, public_name, is_db_o, has_maker, has_all_tries, is_made_by_maker, is_founded, has_object_and_grantee, is_of_pair, has_table, is_within_limit}

-- each key is below all later ones
abbrev pub rise_by : {X : Type 0} → (X → ℕ) → List X → Bool
rise_by key [] = true
rise_by key (x ∷ xs) = list_all (λ y. nat_lt (key x) (key y)) xs && rise_by key xs

-- a user is OWNER as a card is made with it
abbrev pub is_owner : User → Bool
is_owner u =
    (u.stamp == 1) && bytes_eq u.name owner_name && is_db_o u && (u.owner == 1) && (length u.secret == 0) && (u.tries == ALL_TRIES)

-- the users are OWNER and nobody else
abbrev pub is_owner_alone : List User → Bool
is_owner_alone [] = false
is_owner_alone (u ∷ []) = is_owner u
is_owner_alone (u ∷ v ∷ users) = false

-- two users or two objects have one name
abbrev pub are_namesakes : User → User → Bool
are_namesakes u v = bytes_eq u.name v.name

abbrev pub are_objects_of_one_name : Object → Object → Bool
are_objects_of_one_name o p = bytes_eq o.name p.name

-- a user isn't PUBLIC, its owner may have made it, and without a secret it has all tries
abbrev pub is_right_user : List User → User → Bool
is_right_user users u = not (bytes_eq public_name u.name) && has_maker users u && has_all_tries u

-- who owns an object may have made it, and what it rests on is there
abbrev pub is_right_object : List User → List Object → Object → Bool
is_right_object users objects o = is_made_by_maker users o.owner && is_founded objects o

-- a row is within the card's limit, and in a table
abbrev pub is_right_row : ℕ → List Object → RowRecord → Bool
is_right_row limit objects r = is_within_limit limit r && has_table objects r

-- these are the users of a valid database, and so on for each kind
abbrev pub are_right_users : List User → Bool
are_right_users users =
    rise_by (λ (u : User). u.stamp) users && is_owner_alone (filter is_db_o users) && are_apart_by are_namesakes users && list_all (is_right_user users) users

abbrev pub are_right_objects : List User → List Object → Bool
are_right_objects users objects =
    rise_by (λ (o : Object). o.stamp) objects && are_apart_by are_objects_of_one_name objects && list_all (is_right_object users objects) objects

abbrev pub are_right_grants : List User → List Object → List Grant → Bool
are_right_grants users objects grants =
    rise_by (λ (g : Grant). g.stamp) grants && are_apart_by is_of_pair grants && list_all (has_object_and_grantee users objects) grants

abbrev pub are_right_rows : ℕ → List Object → List RowRecord → Bool
are_right_rows limit objects rows = rise_by (λ (r : RowRecord). r.stamp) rows && list_all (is_right_row limit objects) rows

-- a stamp was given out before the next one
abbrev pub is_stamp_before : ℕ → ℕ → Bool
is_stamp_before next stamp = nat_le 1 stamp && nat_lt stamp next

-- the stamps of records were given out, and no two are the same
abbrev pub are_right_stamps : ℕ → List ℕ → Bool
are_right_stamps next stamps = list_all (is_stamp_before next) stamps && is_distinct stamps

-- a card has so many cells, rows so large, and its counter gives out stamps of four octets from 2 on
abbrev pub has_right_numbers : Database → Bool
has_right_numbers db =
    nat_le fewest_cells db.cells && nat_le db.cells most_cells && (db.limit == LARGEST_UNMIGRATED || db.limit == LARGEST) && nat_le 2 db.next
    && counter_record.fits db.next

-- the stamps of the records of all kinds
abbrev pub stamps_of_kinds : Database → List ℕ
stamps_of_kinds db =
    map (λ (u : User). u.stamp) db.users ++ map (λ (o : Object). o.stamp) db.objects ++ map (λ (g : Grant). g.stamp) db.grants ++ map (λ (r : RowRecord). r.stamp) db.rows

-- the records of a database meet the rules of a valid one
abbrev pub meets_rules : Database → Bool
meets_rules db =
    has_right_numbers db && are_right_stamps db.next (stamps_of_kinds db) && are_right_users db.users && are_right_objects db.users db.objects
    && are_right_grants db.users db.objects db.grants && are_right_rows db.limit db.objects db.rows
