-- A link that fails on purpose.
use Rattle.std.specs.Prelude.{ℕ, Bool}

-- a link, how many commands are still passed on to it, and whether it failed since
pub record Failing (L : Type 0) : Type 0 where
  pub inner : L
  pub left : ℕ
  pub failed : Bool
