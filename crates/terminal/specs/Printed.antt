-- The two ways in which a value is printed.
use Rattle.std.specs.Prelude.{ℕ, ◌==◌, List, [], ◌++◌, codes, if◌then◌else◌}
use Rattle.std.specs.List.{flat_map}
use Rattle.hex.specs.Hex.{encode_upper}
use Rattle.planner.specs.Text.{quoted}

abbrev pub between_quotes : List ℕ → List ℕ
between_quotes value = codes "'" ++ (flat_map quoted value ++ codes "'")

abbrev pub in_hexadecimal : List ℕ → List ℕ
in_hexadecimal value = codes "X'" ++ (encode_upper value ++ codes "'")

-- what stands before the value at a place
abbrev pub lead : ℕ → List ℕ
lead place = if place == 0 then [] else codes ", "
