-- The data fields of commands (ISO/IEC 7816-7): which operation one asks for, and of an operation the form of its fields and the parameters that it is written as.
use Rattle.std.specs.Prelude.{◌≡◌, ℕ, ◌≤◌, ◌==◌, nat_le, ◌&&◌, Bool, true, false, List, [], ◌∷◌, ◌++◌, length, map, take, drop, Option, Some, None, option_map, option_and_then, if◌then◌else◌}
use Rattle.std.specs.List.{flat_map, list_all}
use Rattle.scql_base.specs.declared.words.TheConstants.Profile.{DBOO, DBBU}
use Rattle.scql_base.specs.declared.name_list.TheConstants.NameList.{MOST}
use Rattle.scql_base.specs.declared.operation.TheConstants.Command.{LAST_CHANNEL, LONGEST_DATA}
use Rattle.scql_base.specs.declared.words.Profile.{Profile}
use Rattle.scql_base.specs.declared.words.Profile.TheVariants.{DbO, Dboo, Dbbu}
use Rattle.scql_base.specs.declared.condition.Condition.{Condition}
use Rattle.scql_base.specs.Changes.{change_strings}
use Rattle.scql_base.specs.Name.{is_name}
use Rattle.scql_base.specs.Row.{is_narrow}
use Rattle.scql_base.specs.Strings.{params_of}
use Rattle.scql_base.specs.declared.operation.Operation.{Operation}
use Rattle.scql_base.specs.declared.operation.Operation.TheVariants.{CreateTable, CreateView, CreateDictionary, DropTable, DropView, Grant, Revoke, DeclareCursor, OpenCursor, Next, Fetch, FetchNext, Insert, Update, Delete, Begin, Commit, Rollback, PresentUser, CreateUser, DeleteUser, Verify, OpenChannel, CloseChannel, GetResponse}
use Rattle.scql_base.specs.declared.operation.OperationKind.{OperationKind}
use Rattle.scql_base.specs.declared.operation.OperationKind.TheVariants as kind
use Rattle.scql_model.specs.Records.{profile_code, subject_code, subject_of, comparison_code, comparison_of, is_secret, is_privileges, is_count_of_columns, is_count_of_conditions, is_row, is_row_within}
use Rattle.scql_model.specs.Database.{are_different}

-- one value and then the next; where there is none there is none
infixl 10 ◌>>=◌
abbrev pub ◌>>=◌ : {A B : Type 0} → Option A → (A → Option B) → Option B
None >>= f = None
(Some x) >>= f = f x

-- a value, where a test is passed
abbrev pub only_where : {A : Type 0} → Bool → A → Option A
only_where test x = if test then Some x else None

-- different names
abbrev pub are_different_names : List (List ℕ) → Bool
are_different_names names = list_all is_name names && are_different names

-- 1 to 15 different names of columns
abbrev pub are_columns : List (List ℕ) → Bool
are_columns names = is_count_of_columns (length names) && are_different_names names

-- at most 15 different names of columns; none of them stands for all columns of an object
abbrev pub are_chosen_columns : List (List ℕ) → Bool
are_chosen_columns names = nat_le (length names) MOST && are_different_names names

-- the columns and the conditions of a view or a cursor
pub record Choice : Type 0 where
  pub columns : List (List ℕ)
  pub conditions : List Condition

-- at most eight conditions, each on a name and with a value of at most 200 octets
abbrev pub are_conditions : List Condition → Bool
are_conditions conditions =
    is_count_of_conditions (length conditions)
    && list_all (λ (c : Condition). is_name c.column && is_narrow c.value) conditions

-- a condition is three parameters: a name, one octet for the comparison, and a value
abbrev pub conditions_in : List (List ℕ) → Option (List Condition)
conditions_in [] = Some []
conditions_in (column ∷ (code ∷ []) ∷ value ∷ strings) =
    option_and_then
    (λ comparison. option_map (λ conditions. record { column = column; comparison = comparison; value = value } ∷ conditions) (conditions_in strings))
    (comparison_of code)
conditions_in strings = None

-- a condition's parameters
abbrev pub condition_strings : Condition → List (List ℕ)
condition_strings c = c.column ∷ (comparison_code c.comparison ∷ []) ∷ c.value ∷ []

-- the number of columns in one octet, so many names, and conditions to the end
abbrev pub choice_in : List (List ℕ) → Option Choice
choice_in ((count ∷ []) ∷ strings) = do
  conditions ← conditions_in (drop count strings)
  only_where
      (nat_le count (length strings) && are_chosen_columns (take count strings) && are_conditions conditions)
      (record { columns = take count strings; conditions = conditions })
choice_in strings = None

-- the parameters of a choice
abbrev pub choice_strings : List (List ℕ) → List Condition → List (List ℕ)
choice_strings columns conditions = (length columns ∷ []) ∷ (columns ++ flat_map condition_strings conditions)

-- a change is two parameters: a name and a value
abbrev pub changes_in : List (List ℕ) → Option (List (List ℕ × List ℕ))
changes_in [] = Some []
changes_in (column ∷ value ∷ strings) = option_map (λ changes. (column, value) ∷ changes) (changes_in strings)
changes_in (column ∷ []) = None

-- 1 to 15 changes of different columns
abbrev pub are_changes : List (List ℕ × List ℕ) → Bool
are_changes changes =
    are_columns (map (λ (change : List ℕ × List ℕ). change.0) changes)
    && list_all (λ (change : List ℕ × List ℕ). is_narrow change.1) changes

-- CREATE TABLE: a name and its columns
abbrev pub create_table_in : List (List ℕ) → Option Operation
create_table_in (name ∷ columns) = only_where (is_name name && are_columns columns) (CreateTable name columns)
create_table_in strings = None

-- CREATE VIEW: a name, the base's name, columns and conditions
abbrev pub create_view_in : List (List ℕ) → Option Operation
create_view_in (name ∷ base ∷ strings) = do
  choice ← choice_in strings
  only_where (is_name name && is_name base) (CreateView name base choice.columns choice.conditions)
create_view_in strings = None

-- CREATE DICTIONARY: a name and one octet for what it tells of
abbrev pub create_dictionary_in : List (List ℕ) → Option Operation
create_dictionary_in (name ∷ (code ∷ []) ∷ []) = do
  subject ← subject_of code
  only_where (is_name name) (CreateDictionary name subject)
create_dictionary_in strings = None

-- DROP TABLE, DROP VIEW, PRESENT USER, DELETE USER: a name
abbrev pub named_in : (List ℕ → Operation) → List (List ℕ) → Option Operation
named_in operation (name ∷ []) = only_where (is_name name) (operation name)
named_in operation strings = None

-- GRANT, REVOKE: privileges in one octet, the object's name and the user's
abbrev pub granted_in : (ℕ → List ℕ → List ℕ → Operation) → List (List ℕ) → Option Operation
granted_in operation ((privileges ∷ []) ∷ object ∷ grantee ∷ []) =
    only_where (is_privileges privileges && is_name object && is_name grantee) (operation privileges object grantee)
granted_in operation strings = None

-- DECLARE CURSOR: the object's name, columns and conditions
abbrev pub declare_cursor_in : List (List ℕ) → Option Operation
declare_cursor_in (object ∷ strings) = do
  choice ← choice_in strings
  only_where (is_name object) (DeclareCursor object choice.columns choice.conditions)
declare_cursor_in strings = None

-- INSERT: the table's name and a row
abbrev pub insert_in : ℕ → List (List ℕ) → Option Operation
insert_in limit (table ∷ values) = only_where (is_name table && is_row_within limit values) (Insert table values)
insert_in limit strings = None

-- UPDATE: changes
abbrev pub update_in : List (List ℕ) → Option Operation
update_in strings = do
  changes ← changes_in strings
  only_where (are_changes changes) (Update changes)

-- nobody is made with the profile of OWNER
abbrev pub made_profile_of : ℕ → Option Profile
made_profile_of code = if code == DBOO then Some Dboo else if code == DBBU then Some Dbbu else None

-- a new user's secret is any secret where secrets can be shown, and else is empty
abbrev pub is_new_secret : Bool → List ℕ → Bool
is_new_secret true secret = is_secret secret
is_new_secret false secret = length secret == 0

-- CREATE USER: a name, one octet for the profile, and a secret
abbrev pub create_user_in : Bool → List (List ℕ) → Option Operation
create_user_in secrets (name ∷ (code ∷ []) ∷ secret ∷ []) = do
  profile ← made_profile_of code
  only_where (is_name name && is_new_secret secrets secret) (CreateUser name profile secret)
create_user_in secrets strings = None

-- VERIFY: the bare secret, 1 to 255 octets
abbrev pub is_verified_secret : List ℕ → Bool
is_verified_secret octets = nat_le 1 (length octets) && nat_le (length octets) LONGEST_DATA

-- The operation of a kind that a data field asks for, where secrets can be shown or not, and where a row has at most so many octets. The field of VERIFY is the bare secret; each other one is a list of parameters.
abbrev pub operation_in : Bool → OperationKind → ℕ → List ℕ → Option Operation
operation_in secrets kind.CreateTable limit octets = params_of octets >>= create_table_in
operation_in secrets kind.CreateView limit octets = params_of octets >>= create_view_in
operation_in secrets kind.CreateDictionary limit octets = params_of octets >>= create_dictionary_in
operation_in secrets kind.DropTable limit octets = params_of octets >>= named_in DropTable
operation_in secrets kind.DropView limit octets = params_of octets >>= named_in DropView
operation_in secrets kind.Grant limit octets = params_of octets >>= granted_in Grant
operation_in secrets kind.Revoke limit octets = params_of octets >>= granted_in Revoke
operation_in secrets kind.DeclareCursor limit octets = params_of octets >>= declare_cursor_in
operation_in secrets kind.OpenCursor limit octets = Some OpenCursor
operation_in secrets kind.Next limit octets = Some Next
operation_in secrets kind.Fetch limit octets = Some Fetch
operation_in secrets kind.FetchNext limit octets = Some FetchNext
operation_in secrets kind.Insert limit octets = params_of octets >>= insert_in limit
operation_in secrets kind.Update limit octets = params_of octets >>= update_in
operation_in secrets kind.Delete limit octets = Some Delete
operation_in secrets kind.Begin limit octets = Some Begin
operation_in secrets kind.Commit limit octets = Some Commit
operation_in secrets kind.Rollback limit octets = Some Rollback
operation_in secrets kind.PresentUser limit octets = params_of octets >>= named_in PresentUser
operation_in secrets kind.CreateUser limit octets = params_of octets >>= create_user_in secrets
operation_in secrets kind.DeleteUser limit octets = params_of octets >>= named_in DeleteUser
operation_in secrets kind.Verify limit octets = only_where (is_verified_secret octets) (Verify octets)
operation_in secrets (kind.OpenChannel number) limit octets = Some (OpenChannel number)
operation_in secrets (kind.CloseChannel number) limit octets = Some (CloseChannel number)
operation_in secrets kind.GetResponse limit octets = Some GetResponse

-- The fields of an operation have the forms of its data field. A row is within the largest limit that a card may have; nobody is made with the profile of OWNER.
abbrev pub HasForm : Operation → Type 0
HasForm (CreateTable name columns) = (is_name name ≡ true) × (are_columns columns ≡ true)
HasForm (CreateView name base columns conditions) =
    (is_name name ≡ true) × (is_name base ≡ true) × (are_chosen_columns columns ≡ true) × (are_conditions conditions ≡ true)
HasForm (CreateDictionary name subject) = is_name name ≡ true
HasForm (DropTable name) = is_name name ≡ true
HasForm (DropView name) = is_name name ≡ true
HasForm (Grant privileges object grantee) = (is_privileges privileges ≡ true) × (is_name object ≡ true) × (is_name grantee ≡ true)
HasForm (Revoke privileges object grantee) = (is_privileges privileges ≡ true) × (is_name object ≡ true) × (is_name grantee ≡ true)
HasForm (DeclareCursor object columns conditions) = (is_name object ≡ true) × (are_chosen_columns columns ≡ true) × (are_conditions conditions ≡ true)
HasForm OpenCursor = Unit {0}
HasForm Next = Unit {0}
HasForm Fetch = Unit {0}
HasForm FetchNext = Unit {0}
HasForm (Insert table values) = (is_name table ≡ true) × (is_row values ≡ true)
HasForm (Update changes) = are_changes changes ≡ true
HasForm Delete = Unit {0}
HasForm Begin = Unit {0}
HasForm Commit = Unit {0}
HasForm Rollback = Unit {0}
HasForm (PresentUser name) = is_name name ≡ true
HasForm (CreateUser name profile secret) = (is_name name ≡ true) × (is_secret secret ≡ true) × (profile ≡ DbO → ⊥)
HasForm (DeleteUser name) = is_name name ≡ true
HasForm (Verify secret) = is_verified_secret secret ≡ true
HasForm (OpenChannel number) = number ≤ LAST_CHANNEL
HasForm (CloseChannel number) = number ≤ LAST_CHANNEL
HasForm GetResponse = Unit {0}

-- the parameters of an operation
abbrev pub parameters_of : Operation → List (List ℕ)
parameters_of (CreateTable name columns) = name ∷ columns
parameters_of (CreateView name base columns conditions) = name ∷ base ∷ choice_strings columns conditions
parameters_of (CreateDictionary name subject) = name ∷ (subject_code subject ∷ []) ∷ []
parameters_of (DropTable name) = name ∷ []
parameters_of (DropView name) = name ∷ []
parameters_of (Grant privileges object grantee) = (privileges ∷ []) ∷ object ∷ grantee ∷ []
parameters_of (Revoke privileges object grantee) = (privileges ∷ []) ∷ object ∷ grantee ∷ []
parameters_of (DeclareCursor object columns conditions) = object ∷ choice_strings columns conditions
parameters_of (Insert table values) = table ∷ values
parameters_of (Update changes) = flat_map change_strings changes
parameters_of (PresentUser name) = name ∷ []
parameters_of (CreateUser name profile secret) = name ∷ (profile_code profile ∷ []) ∷ secret ∷ []
parameters_of (DeleteUser name) = name ∷ []
parameters_of operation = []
