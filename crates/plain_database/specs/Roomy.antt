-- The room of a plain database's lists.
use Rattle.std.specs.Prelude.{ℕ, ◌≤◌}

-- lists of these capacities have room for as many records as the card has cells
pub record IsRoomy (cells users objects grants rows : ℕ) : Type 0 where
  pub for_users : cells ≤ users
  pub for_objects : cells ≤ objects
  pub for_grants : cells ≤ grants
  pub for_rows : cells ≤ rows
