-- Which octets are a name.
use Rattle.std.specs.Prelude.{◌≡◌, ℕ, ◌==◌, nat_lt, Bool, true, false, ◌&&◌, ◌||◌, List, [], ◌∷◌, length, Option, Some, None, if◌then◌else◌}
use Rattle.std.specs.List.{list_all}
use Rattle.scql_base.specs.declared.name.TheConstants.Name.{LONGEST}
use Rattle.std.specs.Char.{is_ascii_uppercase, is_ascii_digit}

-- a letter A to Z, a digit or _
abbrev pub is_name_octet : ℕ → Bool
is_name_octet octet = is_ascii_uppercase octet || is_ascii_digit octet || octet == 95

abbrev pub is_name : List ℕ → Bool
is_name [] = false
is_name (first ∷ rest) = is_ascii_uppercase first && list_all is_name_octet rest && nat_lt (length rest) LONGEST

abbrev pub IsName : List ℕ → Type 0
IsName octets = is_name octets ≡ true

-- the name that octets are
abbrev pub name_of : List ℕ → Option (List ℕ)
name_of octets = if is_name octets then Some octets else None
