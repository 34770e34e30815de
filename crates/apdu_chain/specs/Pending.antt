-- What is given of octets as far as Le allows, and what is left of them.
use Rattle.std.specs.Prelude.{◌≡◌, ℕ, List}
use Rattle.scql_model.specs.ReadingCommands.{cut}
use Rattle.scql_model.specs.Replies.{Reply}

-- Octets are cut by Le.
pub record IsCut (octets : List ℕ) (le : ℕ) (answer : Reply) (left : List ℕ) : Type 0 where
  -- the first are answered
  pub reply : answer ≡ (cut octets le).reply
  -- and those that follow are left
  pub rest : left ≡ (cut octets le).rest
