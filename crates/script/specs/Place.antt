-- What the place of a fault means.
use Rattle.std.specs.Prelude.{◌≡◌, List, ◌++◌, take, Some, None}
use Rattle.script.specs.declared.statement.Statement.{Statement}
use Rattle.script.specs.Tokens.{Token}
use Rattle.script.specs.Grammar.{whole}

-- The tokens are those before the fault, and those from the token at fault on, or none where the line ends too early.
-- Whatever stands in the place of the tokens behind that, it is no statement.
pub record IsAtFault (tokens rest : List Token) : Type 0 where
  pub before : List Token
  pub split : tokens ≡ before ++ rest
  pub never : (others : List Token) → take 1 others ≡ take 1 rest → (whole (before ++ others)).0 ≡ None

-- The tokens before the fault begin a statement: others, put behind them, make one.
pub record IsBegun (tokens rest : List Token) : Type 0 where
  pub before : List Token
  pub split : tokens ≡ before ++ rest
  pub others : List Token
  pub statement : Statement
  pub made : (whole (before ++ others)).0 ≡ Some statement
