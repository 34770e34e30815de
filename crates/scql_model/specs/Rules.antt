-- The rules of a valid database for the records of each kind: users, objects, grants and rows.
use Rattle.std.specs.Prelude.{◌≡◌, ℕ, ◌==◌, nat_le, nat_lt, not, ◌&&◌, ◌||◌, Bool, true, false, List, [], ◌∷◌, length, map, filter, Option}
use Rattle.std.specs.List.{list_all, list_any, find}
use Rattle.std.specs.Option.{option_map_or}
use Rattle.std.specs.Str.{bytes_eq}
use Rattle.eeprom.specs.Slots.{Rises}
use Rattle.scql_base.specs.declared.records.TheConstants.Object.{LONGEST}
use Rattle.scql_base.specs.declared.records.TheConstants.User.{ALL_TRIES}
use Rattle.scql_base.specs.declared.name.TheConstants.Name.{OWNER, PUBLIC}
pub use Rattle.scql_base.specs.Different.{are_apart_by, are_different}
use Rattle.scql_base.specs.Row.{row_size}
use Rattle.scql_base.specs.declared.words.Profile.{Profile}
use Rattle.scql_base.specs.declared.words.Profile.TheVariants.{DbO, Dboo, Dbbu}
use Rattle.scql_base.specs.declared.condition.Condition.{Condition}
use Rattle.scql_base.specs.declared.records.User.{User}
use Rattle.scql_base.specs.declared.records.Object.{Object}
use Rattle.scql_base.specs.declared.records.ObjectKind.{ObjectKind}
use Rattle.scql_base.specs.declared.records.ObjectKind.TheVariants.{Table, View, Dictionary}
use Rattle.scql_base.specs.declared.records.Grant.{Grant}
use Rattle.scql_base.specs.declared.records.RowRecord.{RowRecord}
use Rattle.scql_model.specs.Objects.{columns_of, deepest, depth_of}
pub use Rattle.scql_model.specs.Objects.{object_stamped}
use Rattle.scql_model.specs.Records.{user_record, grant_record, row_record, object_spelling, object_fits}

-- whether each name is that of a column
abbrev pub are_among : List (List ℕ) → List (List ℕ) → Bool
are_among names columns = list_all (λ name. list_any (bytes_eq name) columns) names

-- whether columns and the columns of conditions are among those of an object
abbrev pub are_named_among : List (List ℕ) → List (List ℕ) → List Condition → Bool
are_named_among all columns conditions = are_among columns all && are_among (map (λ (c : Condition). c.column) conditions) all

-- Users.

-- the user with whom a card is made, `OWNER`
abbrev pub owner_name : List ℕ
owner_name = OWNER.now

abbrev pub owner : User
owner = record { stamp = 1; name = owner_name; profile = DbO; owner = 1; secret = []; tries = ALL_TRIES }

-- `PUBLIC`, which is everybody and no user
abbrev pub public_name : List ℕ
public_name = PUBLIC.now

-- the user of a stamp, and that of a name
abbrev pub user_stamped : List User → ℕ → Option User
user_stamped users stamp = find (λ (u : User). u.stamp == stamp) users

abbrev pub is_named : List ℕ → User → Bool
is_named name u = bytes_eq name u.name

abbrev pub user_named : List User → List ℕ → Option User
user_named users name = find (is_named name) users

-- a profile that makes users and objects
abbrev pub is_maker : Profile → Bool
is_maker DbO = true
is_maker Dboo = true
is_maker Dbbu = false

-- a user of profile 01
abbrev pub is_db_o : User → Bool
is_db_o u = is_of u.profile
  where
    is_of : Profile → Bool
    is_of DbO = true
    is_of p = false

-- the owner of this stamp is a user of profile 01 or 02
abbrev pub is_made_by_maker : List User → ℕ → Bool
is_made_by_maker users stamp = option_map_or (λ (u : User). is_maker u.profile) (user_stamped users stamp) false

-- a user of profile 02 is OWNER's; one of profile 03 is that of a user of profile 01 or 02
abbrev pub has_maker : List User → User → Bool
has_maker users u = is_right u.profile
  where
    is_right : Profile → Bool
    is_right DbO = true
    is_right Dboo = u.owner == 1
    is_right Dbbu = is_made_by_maker users u.owner

-- a user without a secret has three tries
abbrev pub has_all_tries : User → Bool
has_all_tries u = not (length u.secret == 0) || (u.tries == ALL_TRIES)

-- These are the users of a valid database.
pub record AreUsers (users : List User) : Type 0 where
  -- in rising order of their stamps, each within its limits
  pub rises : Rises (λ (u : User). u.stamp) users
  pub limits : list_all user_record.fits users ≡ true
  -- OWNER is the one user of profile 01
  pub owner : filter is_db_o users ≡ owner ∷ []
  -- their names are different, and none is PUBLIC
  pub names : are_different (map (λ (u : User). u.name) users) ≡ true
  pub none_public : list_any (λ (u : User). bytes_eq public_name u.name) users ≡ false
  -- each is owned by one who may have made it, and has all tries where it has no secret
  pub makers : list_all (has_maker users) users ≡ true
  pub tries : list_all has_all_tries users ≡ true

-- Objects.

-- an object is a table
abbrev pub is_table : ObjectKind → Bool
is_table (Table columns) = true
is_table kind = false

-- an object on which a view may rest: it doesn't stand at the greatest depth
abbrev pub may_have_view : List Object → Object → Bool
may_have_view objects base = option_map_or (λ depth. nat_lt depth deepest) (depth_of objects base.stamp) false

-- the base is older, has the same owner, and may have a view; the view's columns are the base's, and so are its conditions' columns
abbrev pub rests_on : List Object → Object → List (List ℕ) → List Condition → Object → Bool
rests_on objects o columns conditions base =
    nat_lt base.stamp o.stamp && (base.owner == o.owner) && may_have_view objects base
    && are_named_among (columns_of base.kind) columns conditions

-- a table's columns are different; so are a view's, and it rests on a base that is there
abbrev pub is_founded : List Object → Object → Bool
is_founded objects o = is_right o.kind
  where
    is_right : ObjectKind → Bool
    is_right (Table columns) = are_different columns
    is_right (View base columns conditions) =
        are_different columns && option_map_or (rests_on objects o columns conditions) (object_stamped objects base) false
    is_right (Dictionary subject) = true

-- the record of an object isn't too long; only a view's could be
abbrev pub is_short : Object → Bool
is_short o = nat_le (length (object_spelling o)) LONGEST

-- These are the objects of a valid database with these users.
pub record AreObjects (users : List User) (objects : List Object) : Type 0 where
  -- in rising order of their stamps, each within its limits
  pub rises : Rises (λ (o : Object). o.stamp) objects
  pub limits : list_all object_fits objects ≡ true
  pub lengths : list_all is_short objects ≡ true
  -- their names are different, and users of profile 01 or 02 own them
  pub names : are_different (map (λ (o : Object). o.name) objects) ≡ true
  pub makers : list_all (λ (o : Object). is_made_by_maker users o.owner) objects ≡ true
  pub founded : list_all (is_founded objects) objects ≡ true

-- Grants.

-- its object is there, and its grantee is a user or everybody
abbrev pub has_object_and_grantee : List User → List Object → Grant → Bool
has_object_and_grantee users objects g =
    list_any (λ (o : Object). o.stamp == g.object) objects && ((g.grantee == 0) || list_any (λ (u : User). u.stamp == g.grantee) users)

-- two grants are of one object to one grantee
abbrev pub is_of_pair : Grant → Grant → Bool
is_of_pair g h = (g.object == h.object) && (g.grantee == h.grantee)

-- These are the grants of a valid database with these users and objects.
pub record AreGrants (users : List User) (objects : List Object) (grants : List Grant) : Type 0 where
  -- in rising order of their stamps, each within its limits
  pub rises : Rises (λ (g : Grant). g.stamp) grants
  pub limits : list_all grant_record.fits grants ≡ true
  -- what each grants is there, and to whom; no two are of one object to one grantee
  pub parties : list_all (has_object_and_grantee users objects) grants ≡ true
  pub pairs : are_apart_by is_of_pair grants ≡ true

-- Rows.

-- the table is older than the row, and has as many columns as the row has values
abbrev pub fits_table : RowRecord → Object → Bool
fits_table r o = is_table o.kind && nat_lt o.stamp r.stamp && (length (columns_of o.kind) == length r.row)

-- the rows of the table of a stamp
abbrev pub rows_of : ℕ → List RowRecord → List RowRecord
rows_of table rows = filter (λ (r : RowRecord). r.table == table) rows

-- the row's table is there and fits it
abbrev pub has_table : List Object → RowRecord → Bool
has_table objects r = option_map_or (fits_table r) (object_stamped objects r.table) false

-- a row has at most as many octets as its card allows
abbrev pub is_within_limit : ℕ → RowRecord → Bool
is_within_limit limit r = nat_le (row_size r.row) limit

-- These are the rows of a valid database with these objects, on a card with this limit.
pub record AreRows (limit : ℕ) (objects : List Object) (rows : List RowRecord) : Type 0 where
  -- in rising order of their stamps, each within the limits of a row and the card's
  pub rises : Rises (λ (r : RowRecord). r.stamp) rows
  pub limits : list_all row_record.fits rows ≡ true
  pub lengths : list_all (is_within_limit limit) rows ≡ true
  -- each in a table
  pub tables : list_all (has_table objects) rows ≡ true
