-- The parts of data fields, each read from strings by the model's grammar.
use Rattle.std.specs.Prelude.{ℕ, nat_le, ◌&&◌, List, [], ◌∷◌, length, take, drop, Option, Some, None, option_map}
use Rattle.scql_base.specs.declared.words.Profile.{Profile}
use Rattle.scql_base.specs.declared.words.Subject.{Subject}
use Rattle.scql_base.specs.declared.words.Comparison.{Comparison}
use Rattle.scql_base.specs.declared.condition.Condition.{Condition}
use Rattle.scql_base.specs.Name.{is_name, name_of}
use Rattle.scql_base.specs.Row.{is_narrow}
use Rattle.scql_base.specs.Strings.{params_of}
use Rattle.scql_model.specs.Parameters as parameters
use Rattle.scql_model.specs.Parameters.{◌>>=◌, only_where, are_columns, are_chosen_columns, are_conditions, are_changes, Choice, made_profile_of}
use Rattle.scql_model.specs.Records.{subject_of, comparison_of, is_privileges, is_row_within}

-- a name alone
abbrev pub name_in : List (List ℕ) → Option (List ℕ)
name_in (name ∷ []) = name_of name
name_in strings = None

-- 1 to 15 different names of columns
abbrev pub columns_in : List (List ℕ) → Option (List (List ℕ))
columns_in names = only_where (are_columns names) names

-- what is read of the strings that octets split into
abbrev pub read_by : {A : Type 0} → (List (List ℕ) → Option A) → List ℕ → Option A
read_by read octets = params_of octets >>= read

-- values that were read, and the strings that the octets behind them split into
abbrev pub read_before : {A : Type 0} → Option (A × List ℕ) → Option (A × List (List ℕ))
read_before None = None
read_before (Some x) = option_map (λ (strings : List (List ℕ)). (x.0, strings)) (params_of x.1)

-- so many different names, at most 15, and the strings behind them
abbrev pub names_in : ℕ → List (List ℕ) → Option (List (List ℕ) × List (List ℕ))
names_in count strings = only_where (nat_le count (length strings) && are_chosen_columns (take count strings)) (take count strings, drop count strings)

-- privileges, an object's name and a user's
abbrev pub granted_in : List (List ℕ) → Option (ℕ × List ℕ × List ℕ)
granted_in ((privileges ∷ []) ∷ object ∷ grantee ∷ []) =
    only_where (is_privileges privileges && is_name object && is_name grantee) (privileges, object, grantee)
granted_in strings = None

-- columns and conditions, as they are read one after the other
abbrev pub choice_of : List (List ℕ) × List Condition → Choice
choice_of x = record { columns = x.0; conditions = x.1 }

-- the condition that a column's name, one octet for the comparison, and a value are
abbrev pub condition_of : List ℕ → List ℕ → List ℕ → Option Condition
condition_of column (code ∷ []) value = do
  comparison ← comparison_of code
  only_where (is_name column && is_narrow value) (record { column = column; comparison = comparison; value = value })
condition_of column string value = None

-- at most eight conditions, each within its limits
abbrev pub conditions_in : List (List ℕ) → Option (List Condition)
conditions_in strings = do
  conditions ← parameters.conditions_in strings
  only_where (are_conditions conditions) conditions

-- changes of different columns, each within its limits
abbrev pub changes_in : List (List ℕ) → Option (List (List ℕ × List ℕ))
changes_in strings = do
  changes ← parameters.changes_in strings
  only_where (are_changes changes) changes

-- 1 to 15 values, within a limit of octets
abbrev pub values_in : ℕ → List (List ℕ) → Option (List (List ℕ))
values_in limit values = only_where (is_row_within limit values) values

-- one octet, and what it stands for
abbrev pub octet_in : List ℕ → Option ℕ
octet_in (octet ∷ []) = Some octet
octet_in string = None

abbrev pub privileges_in : List ℕ → Option ℕ
privileges_in (code ∷ []) = only_where (is_privileges code) code
privileges_in string = None

abbrev pub subject_in : List ℕ → Option Subject
subject_in (code ∷ []) = subject_of code
subject_in string = None

abbrev pub comparison_in : List ℕ → Option Comparison
comparison_in (code ∷ []) = comparison_of code
comparison_in string = None

abbrev pub made_profile_in : List ℕ → Option Profile
made_profile_in (code ∷ []) = made_profile_of code
made_profile_in string = None
