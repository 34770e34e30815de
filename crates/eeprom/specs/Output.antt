-- What has gone out of an outlet.
use Rattle.std.specs.Prelude.{◌≡◌, ℕ, List, ◌++◌, take, Option}
use Rattle.eeprom.specs.Chip.{Becomes}

-- a text follows what was given, where it is told
abbrev pub Prints : List ℕ → Option (List ℕ) → Option (List ℕ) → Type 0
Prints text old new = Becomes (λ before after. after ≡ before ++ text) old new

-- the first so many octets of a piece follow what was given, where it is told
abbrev pub Follows : ℕ → List ℕ → Option (List ℕ) → Option (List ℕ) → Type 0
Follows count octets old new = Becomes (λ before after. after ≡ before ++ take count octets) old new
