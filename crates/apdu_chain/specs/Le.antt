-- The greatest number of octets wanted.
use Rattle.std.specs.Prelude.{ℕ, ◌≤◌}

-- an Le is 1 to 256
abbrev pub IsLe : ℕ → Type 0
IsLe le = (1 ≤ le) × (le ≤ 256)
