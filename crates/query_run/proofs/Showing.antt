-- How many rows are fetched, one after another.
use Rattle.std.proofs.Common.{◌≡◌, ℕ, ◌<◌, List, length, Result, Ok, Err, refl, sym}
use Rattle.planner.specs.declared.step.Step.{Step}
use Rattle.planner.specs.declared.step.Step.TheVariants.{Send, Row, ResetCard, Done}
use Rattle.planner.specs.declared.closing.Closing.{Closing}
use Rattle.planner.specs.Turns.{IfGoesOn}
use Rattle.scql_model.specs.Matching.{Values}
use Rattle.query_run.specs.declared.unfetched.Unfetched.{Unfetched}
use Rattle.query_run.specs.Progress.{IsCountOf}

-- Each step that isn't the last one is one less.
pub less-left : (step : Step) (left next : ℕ) → ((closing : Closing) → step ≡ Done closing → ⊥) → IfGoesOn step (next < left) → next < left
less-left (Send command) left next going less = less
less-left (Row command) left next going less = less
less-left ResetCard left next going less = less
less-left (Done closing) left next going less = absurd (going closing refl)

-- the rows that were fetched are so many
pub counted-fetched : (r : Result (Unit {0}) Unfetched) (rows : List Values) (count : ℕ) → count ≡ length rows → IsCountOf (λ (x : Unit {0}). rows) r count
counted-fetched (Ok x) rows count is = sym is
counted-fetched (Err end) rows count is = tt
