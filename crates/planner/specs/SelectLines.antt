-- A line that is a SELECT prints what follows from what is shown to its channel.
use Rattle.std.specs.Prelude.{◌≡◌, ℕ, true, List, Some, Ok}
use Rattle.scql_base.specs.declared.condition.Condition.{Condition}
use Rattle.scql_model.specs.Lines.{line_step, line_text, state_after, taken_line}
use Rattle.scql_model.specs.Matching.{Columns}
use Rattle.scql_model.specs.Sessions.{is_channel_open}
use Rattle.scql_model.specs.Shown.{shown_on}
use Rattle.script.specs.declared.statement.Statement.TheVariants.{Select}
use Rattle.script.specs.Line.{statement_of}
use Rattle.planner.specs.Selecting.{read_select, select_next}
use Rattle.planner.specs.StatementLines.{TerminalState, statement_lines}

-- a line is this SELECT, and the channel of statements is open
pub record IsSelectLine (state : TerminalState) (line object : List ℕ) (columns : Columns) (conditions : List Condition) : Type 0 where
  pub octets : List ℕ
  pub taken : taken_line line ≡ Some octets
  pub statement : statement_of octets ≡ Ok (Select object columns conditions)
  pub opened : is_channel_open state.machine state.channel ≡ true

-- Its text follows from what is shown to the channel. What is shown to the channel after it follows from that too, what is shown to all others
-- stays, and the channel is that of the next statement.
pub record SelectsShown (state : TerminalState) (line object : List ℕ) (columns : Columns) (conditions : List Condition) : Type 0 where
  pub text : line_text statement_lines state line ≡ read_select (shown_on state.machine state.channel) object columns conditions
  pub after : shown_on (line_step statement_lines state line).machine state.channel ≡ select_next (shown_on state.machine state.channel) object columns conditions
  pub others : (other : ℕ) → ¬ (state.channel ≡ other) → shown_on (line_step statement_lines state line).machine other ≡ shown_on state.machine other
  pub channel : (line_step statement_lines state line).channel ≡ state.channel

-- so does each line from a state on, whatever lines stand before it
abbrev pub LinesSelectShown : TerminalState → Type 0
LinesSelectShown from = (before : List (List ℕ)) (line object : List ℕ) (columns : Columns) (conditions : List Condition)
    → (let state = state_after statement_lines from before in
    IsSelectLine state line object columns conditions → SelectsShown state line object columns conditions)
