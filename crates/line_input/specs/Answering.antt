-- What becomes of an answerer to which lines are handed.
use Rattle.std.specs.Prelude.{◌≡◌, ◌≢◌, ℕ, List, ◌∷◌, ◌++◌, Option}
use Rattle.std.specs.List.{All}
use Rattle.line_input.specs.Cutting.{cut_from}

-- Octets were taken, where a line had begun: the lines that they end were answered, and another has begun.
pub record Feeds {A : Type 0} (answers : A → List (Option (List ℕ)) → A → Type 0) (octets : List ℕ) (old : A) (begun : Option (List ℕ)) (new : A) (left : Option (List ℕ)) : Type 0 where
  pub lines : List (Option (List ℕ))
  pub answered : answers old lines new
  pub cut : (whole : List (Option (List ℕ))) → cut_from (record { whole = whole; begun = begun }) octets ≡ record { whole = whole ++ lines; begun = left }

-- A line feed among octets ended a line in which the answerer stopped.
pub record Halts {A E : Type 0} (answers : A → List (Option (List ℕ)) → A → Type 0) (stops : A → Option (List ℕ) → E → A → Type 0) (octets : List ℕ) (old : A) (begun : Option (List ℕ)) (stop : E) (new : A) : Type 0 where
  pub first : List ℕ
  pub rest : List ℕ
  pub split : octets ≡ first ++ 0x0A ∷ rest
  pub mid : A
  pub line : Option (List ℕ)
  pub feeds : Feeds answers first old begun mid line
  pub stopped : stops mid line stop new

-- no octet is a line feed
abbrev pub LacksLineFeed : List ℕ → Type 0
LacksLineFeed octets = All (λ octet. octet ≢ 0x0A) octets
