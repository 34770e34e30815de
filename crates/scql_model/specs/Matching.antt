-- Conditions on rows: how values compare, and when a row meets conditions.
use Rattle.std.specs.Prelude.{ℕ, ◌&&◌, Bool, List, [], ◌∷◌, if◌then◌else◌}
use Rattle.std.specs.List.{list_all, list_any}
use Rattle.std.specs.Ordering.{nat_cmp, is_eq, is_ne, is_lt, is_gt, is_le, is_ge}
use Rattle.std.specs.Cmp.Lexicographic.{slice_cmp}
use Rattle.std.specs.Str.{bytes_eq}
use Rattle.scql_base.specs.declared.words.Comparison.{Comparison}
use Rattle.scql_base.specs.declared.words.Comparison.TheVariants.{Equal, Less, Greater, AtMost, AtLeast, NotEqual}
use Rattle.scql_base.specs.declared.condition.Condition.{Condition}

-- the names of columns, and the values that a row has in them, in their order
abbrev pub Columns : Type 0
Columns = List (List ℕ)

abbrev pub Values : Type 0
Values = List (List ℕ)

-- whether a comparison is true of two values, which compare octet by octet; a proper prefix is less
abbrev pub compares : Comparison → List ℕ → List ℕ → Bool
compares Equal a b = is_eq (slice_cmp nat_cmp a b)
compares Less a b = is_lt (slice_cmp nat_cmp a b)
compares Greater a b = is_gt (slice_cmp nat_cmp a b)
compares AtMost a b = is_le (slice_cmp nat_cmp a b)
compares AtLeast a b = is_ge (slice_cmp nat_cmp a b)
compares NotEqual a b = is_ne (slice_cmp nat_cmp a b)

-- a row's value in a column
abbrev pub value_of : Columns → Values → List ℕ → List ℕ
value_of [] values column = []
value_of (c ∷ columns) [] column = []
value_of (c ∷ columns) (value ∷ values) column = if bytes_eq column c then value else value_of columns values column

-- a row meets a condition: its column is among the columns, and the comparison is true of the row's value there
abbrev pub meets : Columns → Values → Condition → Bool
meets columns values c = list_any (bytes_eq c.column) columns && compares c.comparison (value_of columns values c.column) c.value

-- a row meets all conditions
abbrev pub matches : Columns → List Condition → Values → Bool
matches columns conditions values = list_all (meets columns values) conditions
