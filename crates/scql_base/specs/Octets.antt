-- Octet strings of a bounded length.
use Rattle.std.specs.Prelude.{◌≡◌, ◌≤◌, ℕ, nat_le, List, length, Option, Some, None, if◌then◌else◌}

-- the octets, where they are at most so many
abbrev pub within : ℕ → List ℕ → Option (List ℕ)
within most octets = if nat_le (length octets) most then Some octets else None

-- the octets that a string of at most so many gives
pub record GivesOctets (most : ℕ) (string given : List ℕ) : Type 0 where
  pub octets : given ≡ string
  pub fits : length given ≤ most
