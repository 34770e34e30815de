-- What a terminal holds: the channel of its statements, and which channel has the open transaction.
use Rattle.std.specs.Prelude.{◌≡◌, ◌==◌, ℕ, Bool, false, IsTrue, Option}
use Rattle.std.specs.Option.{option_map_or}
use Rattle.scql_model.specs.Machine.{Machine}
use Rattle.script.specs.declared.statement.Statement.{Statement}
use Rattle.script.specs.Commands.{CanAlwaysBeSent}
use Rattle.planner.specs.declared.closing.Closing.{Closing}
use Rattle.planner.specs.Held.{channel_after, transaction_channel, held_after, held_when}
use Rattle.planner.specs.Planned.{Planned, started}
use Rattle.planner.specs.StatementLines.{TerminalState}

pub record Holding : Type 0 where
  pub channel : ℕ
  pub transaction : Option ℕ

-- a terminal on a channel of a machine
abbrev pub terminal_at : Machine → ℕ → TerminalState
terminal_at m channel = record { machine = m; channel = channel }

-- what is held is the channel that has the open transaction
abbrev pub Knows : Option ℕ → Machine → Type 0
Knows held m = held ≡ transaction_channel m

-- A terminal with a link is in a state: the card is at the state's machine, statements go to its channel, and the terminal knows which channel has the open transaction.
pub record Sits {L : Type 0} (is_at : L → Machine → Type 0) (state : TerminalState) (holding : Holding) (link : L) : Type 0 where
  pub at : is_at link state.machine
  pub channel : holding.channel ≡ state.channel
  pub knows : Knows holding.transaction state.machine

-- what a terminal holds after a statement that closed so
abbrev pub holding_after : Statement → Closing → Holding → Holding
holding_after statement closing holding = record {
  channel = channel_after statement holding.channel;
  transaction = held_when closing (held_after statement holding.channel holding.transaction) holding.transaction;
}

-- A plan is at the start of its statement, on the terminal's channel. Inside that channel's transaction it needs none of its own.
abbrev pub IsStarted : Holding → Planned → Type 0
IsStarted holding plan = plan ≡ started plan.statement holding.channel (option_map_or (λ own. own == holding.channel) holding.transaction false)

-- A plan may be carried out on a link: the link is live, the plan's commands can be sent, and it is at its start.
pub record MayRun {L : Type 0} (is_live : L → Bool) (holding : Holding) (plan : Planned) (link : L) : Type 0 where
  pub live : IsTrue (is_live link)
  pub sendable : CanAlwaysBeSent plan.statement
  pub started : IsStarted holding plan
