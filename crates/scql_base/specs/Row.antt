-- Which values are a row, and what becomes of a row by a further value.
use Rattle.std.specs.Prelude.{◌≡◌, ℕ, ◌+◌, ◌≤◌, ◌==◌, nat_le, nat_lt, Bool, true, ◌&&◌, ◌||◌, List, [], ◌∷◌, ◌++◌, length, Option, Some, None, option_and_then, Result, Ok, Err, if◌then◌else◌}
use Rattle.std.specs.List.{list_all, sum_by}
use Rattle.scql_base.specs.Strings.{params_of}
use Rattle.scql_base.specs.declared.row.TheConstants.Row.{MOST, LONGEST_VALUE, LARGEST}
use Rattle.scql_base.specs.declared.row_refusal.RowRefusal.{RowRefusal}
use Rattle.scql_base.specs.declared.row_refusal.RowRefusal.TheVariants.{TooMany, TooWide}

-- the octets that values take in a record: each value's, and one for its length
abbrev pub row_size : List (List ℕ) → ℕ
row_size values = sum_by (λ value. length value + 1) values

abbrev pub is_narrow : List ℕ → Bool
is_narrow value = nat_le (length value) LONGEST_VALUE

pub record IsRow (values : List (List ℕ)) : Type 0 where
  pub count : length values ≤ MOST
  pub widths : list_all is_narrow values ≡ true
  pub size : row_size values ≤ LARGEST

-- whether values are a row
abbrev pub are_a_row : List (List ℕ) → Bool
are_a_row values = nat_le (length values) MOST && list_all is_narrow values && nat_le (row_size values) LARGEST

-- how many values there are, where none is too long for a row
abbrev pub narrow_count : List (List ℕ) → Option ℕ
narrow_count values = if list_all is_narrow values then Some (length values) else None

-- the row that octets spell: the values that they split into, where these are a row
abbrev pub row_from : List ℕ → Option (List (List ℕ))
row_from octets = option_and_then (λ values. if are_a_row values then Some values else None) (params_of octets)

-- the row with one more value at its end, or why there is no such row
abbrev pub with_value : List (List ℕ) → List ℕ → Result (List (List ℕ)) RowRefusal
with_value values value =
    if length values == MOST then Err TooMany
    else if nat_lt LONGEST_VALUE (length value) || nat_lt LARGEST (row_size values + length value + 1) then Err TooWide
    else Ok (values ++ value ∷ [])
