-- A statement's run is its meaning, for a terminal that knows the open transaction.
use Rattle.std.proofs.Common.{◌≡◌, ℕ, ◌==◌, Bool, true, false, Option, Some, None, is_some, option_map, if◌then◌else◌, refl, ap, ◌∙◌}
use Rattle.std.specs.Option.{option_map_or}
use Rattle.scql_model.specs.Machine.{Machine, Transaction}
use Rattle.scql_model.specs.Transactions.{own_transaction}
use Rattle.card_link.specs.Link.{HasValidData}
use Rattle.script.specs.Commands.{CanBeSent}
use Rattle.planner.specs.Meaning.{meaning}
use Rattle.planner.specs.Planned.{Planned}
use Rattle.planner.specs.Running.{shown}
use Rattle.card_asking.specs.Following.{run_of}
use Rattle.card_asking.proofs.Meant.{run-meant}
use Rattle.terminal.specs.Holding.{Holding, IsStarted, Knows}

-- a terminal that knows the open transaction's channel knows whether it is its own
inside-known : (t : Option Transaction) (channel : ℕ) → option_map_or (λ own. own == channel) (option_map (λ (t : Transaction). t.channel) t) false ≡ is_some (own_transaction t channel)
inside-known None channel = refl
inside-known (Some t) channel = own (t.channel == channel)
  where
    own : (b : Bool) → b ≡ is_some (if b then Some t else None)
    own true = refl
    own false = refl

-- a plan that is at its start on a terminal's channel runs to the meaning of its statement
pub started-meant : (m : Machine) (holding : Holding) (plan : Planned) → HasValidData m → CanBeSent holding.channel plan.statement → IsStarted holding plan → Knows holding.transaction m
    → run_of m plan ≡ shown (meaning m holding.channel plan.statement)
started-meant m holding plan over can starts knows =
    ap (run_of m) starts
    ∙ run-meant m holding.channel plan.statement (option_map_or (λ own. own == holding.channel) holding.transaction false) over can
    (ap (λ (transaction : Option ℕ). option_map_or (λ own. own == holding.channel) transaction false) knows ∙ inside-known m.transaction holding.channel)
