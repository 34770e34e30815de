-- The grammar of statements.
use Rattle.std.specs.Prelude.{ℕ, bit_or, List, [], ◌∷◌, ◌++◌, map, if◌then◌else◌, codes}
use Rattle.scql_base.specs.Name.{name_of}
use Rattle.scql_base.specs.declared.condition.Condition.{Condition}
use Rattle.scql_base.specs.declared.operation.Operation.TheVariants.{CreateTable, CreateView, CreateDictionary, CreateUser, DropTable, DropView, Grant, Revoke, Insert, DeleteUser, PresentUser, Verify, Begin, Commit, Rollback}
use Rattle.script.specs.declared.statement.Statement.{Statement}
use Rattle.script.specs.declared.statement.Statement.TheVariants.{Single, Select, UpdateRows, DeleteRows, OpenNumber, CloseNumber, UseNumber, Reset}
use Rattle.script.specs.Reading.{is_end, Rule, gives, fault, ◌>>=◌, one, optional, after, the, listed}
use Rattle.script.specs.Meanings.{new_name_of, literal_of, presented_secret_of, given_secret_of, comparison_of, privilege_of, subject_of, profile_of, further_channel_of, channel_of}

-- A name is a word of at most 8 octets, and a literal has at most 200.
unfoldable pub name : Rule (List ℕ)
name = one name_of

unfoldable pub literal : Rule (List ℕ)
literal = one literal_of

-- name {, name}, of which none stands twice
unfoldable pub with_name : List (List ℕ) → Rule (List (List ℕ))
with_name names = do
  name ← one (new_name_of names)
  gives (names ++ name ∷ [])

unfoldable pub names : Rule (List (List ℕ))
names = listed 15 (codes ",") with_name []

-- * | name {, name}
unfoldable pub columns : Rule (List (List ℕ))
columns = after (codes "*") (gives []) names

-- [WHERE name op literal {AND name op literal}]
unfoldable pub with_condition : List Condition → Rule (List Condition)
with_condition conditions = do
  column ← name
  comparison ← one comparison_of
  value ← literal
  gives (conditions ++ record { column = column; comparison = comparison; value = value } ∷ [])

unfoldable pub conditions : Rule (List Condition)
conditions = listed 8 (codes "AND") with_condition []

unfoldable pub where_conditions : Rule (List Condition)
where_conditions = after (codes "WHERE") conditions (gives [])

-- literal {, literal}
unfoldable pub with_literal : List (List ℕ) → Rule (List (List ℕ))
with_literal literals = do
  value ← literal
  gives (literals ++ value ∷ [])

unfoldable pub literals : Rule (List (List ℕ))
literals = listed 15 (codes ",") with_literal []

-- name = literal {, name = literal}, where no name stands twice
unfoldable pub with_change : List (List ℕ × List ℕ) → Rule (List (List ℕ × List ℕ))
with_change changes = do
  column ← one (new_name_of (map (λ change. change.0) changes))
  _ ← the (codes "=")
  value ← literal
  gives (changes ++ (column, value) ∷ [])

unfoldable pub changes : Rule (List (List ℕ × List ℕ))
changes = listed 15 (codes ",") with_change []

-- priv {, priv}; a line has room for fewer than 500
unfoldable pub with_privilege : ℕ → Rule ℕ
with_privilege bits = do
  bit ← one privilege_of
  gives (bit_or bits bit)

unfoldable pub privileges : Rule ℕ
privileges = listed 500 (codes ",") with_privilege 0

-- CREATE TABLE name ( name {, name} )
unfoldable pub create_table : Rule Statement
create_table = do
  table ← name
  _ ← the (codes "(")
  columns ← names
  _ ← the (codes ")")
  gives (Single (CreateTable table columns))

-- CREATE VIEW name AS SELECT cols FROM name [WHERE conds]
unfoldable pub create_view : Rule Statement
create_view = do
  view ← name
  _ ← the (codes "AS")
  _ ← the (codes "SELECT")
  columns ← columns
  _ ← the (codes "FROM")
  base ← name
  conditions ← where_conditions
  gives (Single (CreateView view base columns conditions))

-- CREATE DICTIONARY name ON (O | U | P)
unfoldable pub create_dictionary : Rule Statement
create_dictionary = do
  dictionary ← name
  _ ← the (codes "ON")
  subject ← one subject_of
  gives (Single (CreateDictionary dictionary subject))

-- CREATE USER name (DBOO | DBBU) [literal]
unfoldable pub create_user : Rule Statement
create_user = do
  user ← name
  profile ← one profile_of
  secret ← optional given_secret_of []
  gives (Single (CreateUser user profile secret))

unfoldable pub create : Rule Statement
create = after (codes "TABLE") create_table (after (codes "VIEW") create_view (after (codes "DICTIONARY") create_dictionary (after (codes "USER") create_user fault)))

-- DROP TABLE name, DROP VIEW name
unfoldable pub drop_table : Rule Statement
drop_table = name >>= λ table. gives (Single (DropTable table))

unfoldable pub drop_view : Rule Statement
drop_view = name >>= λ view. gives (Single (DropView view))

unfoldable pub dropping : Rule Statement
dropping = after (codes "TABLE") drop_table (after (codes "VIEW") drop_view fault)

-- GRANT privs ON name TO name
unfoldable pub grant : Rule Statement
grant = do
  privileges ← privileges
  _ ← the (codes "ON")
  object ← name
  _ ← the (codes "TO")
  grantee ← name
  gives (Single (Grant privileges object grantee))

-- REVOKE privs ON name FROM name
unfoldable pub revoke : Rule Statement
revoke = do
  privileges ← privileges
  _ ← the (codes "ON")
  object ← name
  _ ← the (codes "FROM")
  grantee ← name
  gives (Single (Revoke privileges object grantee))

-- INSERT INTO name VALUES ( literal {, literal} )
unfoldable pub insert : Rule Statement
insert = do
  _ ← the (codes "INTO")
  table ← name
  _ ← the (codes "VALUES")
  _ ← the (codes "(")
  row ← literals
  _ ← the (codes ")")
  gives (Single (Insert table row))

-- SELECT cols FROM name [WHERE conds]
unfoldable pub select : Rule Statement
select = do
  columns ← columns
  _ ← the (codes "FROM")
  object ← name
  conditions ← where_conditions
  gives (Select object columns conditions)

-- UPDATE name SET name = literal {, name = literal} [WHERE conds]
unfoldable pub update : Rule Statement
update = do
  object ← name
  _ ← the (codes "SET")
  changes ← changes
  conditions ← where_conditions
  gives (UpdateRows object changes conditions)

-- DELETE FROM name [WHERE conds], DELETE USER name
unfoldable pub delete_rows : Rule Statement
delete_rows = do
  object ← name
  conditions ← where_conditions
  gives (DeleteRows object conditions)

unfoldable pub delete_user : Rule Statement
delete_user = name >>= λ user. gives (Single (DeleteUser user))

unfoldable pub delete : Rule Statement
delete = after (codes "FROM") delete_rows (after (codes "USER") delete_user fault)

-- PRESENT name, VERIFY literal
unfoldable pub present : Rule Statement
present = name >>= λ user. gives (Single (PresentUser user))

unfoldable pub verify : Rule Statement
verify = one presented_secret_of >>= λ secret. gives (Single (Verify secret))

-- OPEN CHANNEL (1 | 2 | 3), CLOSE CHANNEL (1 | 2 | 3), CHANNEL (0 | 1 | 2 | 3)
unfoldable pub open_channel : Rule Statement
open_channel = do
  _ ← the (codes "CHANNEL")
  number ← one further_channel_of
  gives (OpenNumber number)

unfoldable pub close_channel : Rule Statement
close_channel = do
  _ ← the (codes "CHANNEL")
  number ← one further_channel_of
  gives (CloseNumber number)

unfoldable pub use_channel : Rule Statement
use_channel = one channel_of >>= λ number. gives (UseNumber number)

unfoldable pub about_channels : Rule Statement
about_channels = after (codes "OPEN") open_channel (after (codes "CLOSE") close_channel (after (codes "CHANNEL") use_channel fault))

-- BEGIN, COMMIT, ROLLBACK, RESET
unfoldable pub about_transactions : Rule Statement
about_transactions =
    after (codes "BEGIN") (gives (Single Begin))
    (after (codes "COMMIT") (gives (Single Commit))
    (after (codes "ROLLBACK") (gives (Single Rollback))
    (after (codes "RESET") (gives Reset) about_channels)))

unfoldable pub about_users : Rule Statement
about_users = after (codes "PRESENT") present (after (codes "VERIFY") verify about_transactions)

unfoldable pub about_objects : Rule Statement
about_objects = after (codes "CREATE") create (after (codes "DROP") dropping (after (codes "GRANT") grant (after (codes "REVOKE") revoke about_users)))

unfoldable pub about_rows : Rule Statement
about_rows = after (codes "SELECT") select (after (codes "UPDATE") update (after (codes "DELETE") delete about_objects))

unfoldable pub statement : Rule Statement
statement = after (codes "INSERT") insert about_rows

-- One ; may end a statement.
unfoldable pub at_end : Statement → Rule Statement
at_end statement = λ tokens. if is_end tokens then gives statement tokens else fault tokens

unfoldable pub whole : Rule Statement
whole = statement >>= λ statement. after (codes ";") (at_end statement) (at_end statement)
