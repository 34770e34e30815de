-- What changes make of the values of a row.
use Rattle.std.specs.Prelude.{ℕ, nat_le, Option, Some, None, option_map, if◌then◌else◌, List}
use Rattle.std.specs.List.{find}
use Rattle.std.specs.Str.{bytes_eq}
use Rattle.scql_base.specs.Row.{row_size}
use Rattle.scql_model.specs.Matching.{Values}
use Rattle.scql_model.specs.Writing.{Assignment}

-- the value that assignments give a column, where they give it one
abbrev pub value_given : List Assignment → List ℕ → Option (List ℕ)
value_given assignments column = option_map (λ (a : Assignment). a.1) (find (λ (a : Assignment). bytes_eq column a.0) assignments)

-- values, where they take no more octets in a record than so many
abbrev pub within_limit : ℕ → Values → Option Values
within_limit limit values = if nat_le (row_size values) limit then Some values else None
