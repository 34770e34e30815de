-- Octets and numbers within a limit.
use Rattle.std.specs.Prelude.{◌≡◌, ℕ, ◌≤◌, List, length}

-- Octets of a limited number.
pub record IsWithin (most : ℕ) (octets meant : List ℕ) : Type 0 where
  -- they are these
  pub value : octets ≡ meant
  -- and at most so many
  pub short : length octets ≤ most

-- A number within a limit.
pub record IsAtMost (most n meant : ℕ) : Type 0 where
  -- it is this
  pub number : n ≡ meant
  -- and at most so great
  pub few : n ≤ most
