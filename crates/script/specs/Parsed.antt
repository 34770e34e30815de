-- What is read of a statement.
use Rattle.std.specs.Prelude.{ℕ, ◌≡◌, nat_le, true, List, Option, Some, None, option_map, if◌then◌else◌}
use Rattle.scql_base.specs.declared.row.TheConstants.Row.{LARGEST}
use Rattle.scql_base.specs.Row.{row_size}
use Rattle.script.specs.declared.statement.Statement.{Statement}
use Rattle.script.specs.declared.parsed.Parsed.{Parsed}
use Rattle.script.specs.declared.parsed.Parsed.TheVariants.{Held, TooLarge}
use Rattle.script.specs.Sizes.{is_too_large}

-- the row of these values, where they aren't too wide for one
abbrev pub row_of : List (List ℕ) → Option (List (List ℕ))
row_of values = if nat_le (row_size values) LARGEST then Some values else None

-- A statement stands in its place, or it is too large; or there is none.
abbrev pub IsRead : Option Parsed → Statement → Option Statement → Type 0
IsRead None place found = found ≡ None
IsRead (Some Held) place found = found ≡ Some place
IsRead (Some TooLarge) place found = option_map is_too_large found ≡ Some true
