-- The join of several objects' rows: all combinations, those that are kept, and their order.
use Rattle.std.specs.Prelude.{◌≡◌, ℕ, ◌≤◌, Bool, List, [], ◌∷◌, length, map, slice_index_or, if◌then◌else◌}
use Rattle.std.specs.List.{filter, flat_map, list_all}
use Rattle.std.specs.Ordering.{nat_cmp, is_lt}
use Rattle.std.specs.declared.cmp.Ordering.{Ordering}
use Rattle.std.specs.Cmp.Lexicographic.{slice_cmp}
use Rattle.std.specs.Str.{bytes_eq}
use Rattle.scql_model.specs.Matching.{Values}
use Rattle.row_join.specs.declared.column.Column.{Column}
use Rattle.row_join.specs.declared.column.Equality.{Equality}

-- a row of each object
abbrev pub Combination : Type 0
Combination = List Values

-- the value of a column in a combination
abbrev pub value_at : Combination → Column → List ℕ
value_at rows column = slice_index_or (slice_index_or rows column.object []) column.place []

-- This is that value, of at most 200 octets.
pub record IsValue (given value' : List ℕ) : Type 0 where
  pub value : given ≡ value'
  pub short : length given ≤ 200

abbrev pub values_at : List Column → Combination → Values
values_at columns rows = map (value_at rows) columns

-- all combinations of one row of each object: the first object's row changes slowest, the last one's fastest
abbrev pub combinations : List (List Values) → List Combination
combinations [] = [] ∷ []
combinations (rows ∷ tables) = flat_map (λ row. map (λ rest. row ∷ rest) (combinations tables)) rows

-- the combinations in which each equality holds, octet by octet
abbrev pub is_met : Combination → Equality → Bool
is_met rows equality = bytes_eq (value_at rows equality.left) (value_at rows equality.right)

abbrev pub are_met : List Equality → Combination → Bool
are_met equalities rows = list_all (is_met rows) equalities

abbrev pub kept : List Equality → List (List Values) → List Combination
kept equalities tables = filter (are_met equalities) (combinations tables)

-- values compare in turn, each octet by octet, and a proper prefix is less
abbrev pub compare_values : Values → Values → Ordering
compare_values = slice_cmp (slice_cmp nat_cmp)

abbrev pub comes_before : List Column → Combination → Combination → Bool
comes_before columns first second = is_lt (compare_values (values_at columns first) (values_at columns second))

-- put in order by columns; those that tie stay as they stood
abbrev pub inserted : {X : Type 0} → (X → X → Bool) → X → List X → List X
inserted before x [] = x ∷ []
inserted before x (y ∷ ys) = if before y x then y ∷ inserted before x ys else x ∷ y ∷ ys

unfoldable pub in_order : {X : Type 0} → (X → X → Bool) → List X → List X
in_order before [] = []
in_order before (x ∷ xs) = inserted before x (in_order before xs)

abbrev pub ordered : List Column → List Combination → List Combination
ordered columns combinations = in_order (comes_before columns) combinations
