-- Conditions bound to the columns of a row, and what it means that they are.
use Rattle.std.specs.Prelude.{◌≡◌, ℕ, Bool, not, List, [], Option, map, find, slice_index_or}
use Rattle.std.specs.List.{list_all, list_any}
use Rattle.std.specs.Str.{bytes_eq}
use Rattle.scql_base.specs.declared.condition.Condition.{Condition}
use Rattle.search_cond.specs.declared.placed.Placed.{Placed}
use Rattle.scql_model.specs.Matching.{Columns, Values, compares, matches}

-- the comparison is true of the value at the condition's place, where a row that has none there counts as empty
abbrev pub is_met : Values → Placed → Bool
is_met values p = compares p.comparison (slice_index_or values p.place []) p.value

-- all conditions hold
abbrev pub passes : Values → List Placed → Bool
passes values bound = list_all (is_met values) bound

-- a row passes exactly where it meets the conditions
abbrev pub Binds : List Placed → Columns → List Condition → Type 0
Binds bound columns conditions = (values : Values) → passes values bound ≡ matches columns conditions values

-- the first column of conditions that isn't among columns
abbrev pub first_unknown : Columns → List Condition → Option (List ℕ)
first_unknown columns conditions = find (λ (column : List ℕ). not (list_any (bytes_eq column) columns)) (map (λ (c : Condition). c.column) conditions)
