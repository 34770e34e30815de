-- Where a terminal is that goes on over a valid machine, and what a line leaves of it.
use Rattle.std.specs.Prelude.{ℕ, ◌≤◌, List}
use Rattle.std.specs.List.{AllByRecursion}
use Rattle.scql_base.specs.declared.operation.TheConstants.Command.{LAST_CHANNEL}
use Rattle.scql_model.specs.Database.{IsValid}
use Rattle.scql_model.specs.Lines.{line_effect}
use Rattle.scql_model.specs.ValidMachine.{IsValidMachine}
use Rattle.planner.specs.StatementLines.{TerminalState, statement_lines}

-- its card's machine is valid, and its statements go to a channel that a card has
pub record IsValidState (state : TerminalState) : Type 0 where
  pub machine : IsValidMachine state.machine
  pub channel : state.channel ≤ LAST_CHANNEL

-- a line leaves such a state, and commits valid databases
pub record KeepsValid (state : TerminalState) (line : List ℕ) : Type 0 where
  pub next : IsValidState (line_effect statement_lines state line).next
  pub commits : AllByRecursion IsValid (line_effect statement_lines state line).commits
