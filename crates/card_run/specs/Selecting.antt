-- A line of a run of statements that is a SELECT reads what is shown to the channel of the terminal.
use Rattle.std.specs.Prelude.{◌≡◌, ℕ, List}
use Rattle.scql_base.specs.declared.condition.Condition.{Condition}
use Rattle.scql_model.specs.Lines.{line_step, line_text, state_after}
use Rattle.scql_model.specs.Matching.{Columns}
use Rattle.scql_model.specs.Shown.{shown_on}
use Rattle.planner.specs.SelectLines.{IsSelectLine}
use Rattle.planner.specs.Selecting.{read_select, select_next}
use Rattle.card_run.specs.Statements.{Sitting, term_lines}

-- Its text follows from what is shown to the channel. What is shown to the channel after it follows from that too, what is shown to all others stays, and the terminal goes on on the channel.
pub record TermLineSelectsShown (sitting : Sitting) (line object : List ℕ) (columns : Columns) (conditions : List Condition) : Type 0 where
  pub text : line_text term_lines sitting line ≡ read_select (shown_on sitting.at.machine sitting.at.channel) object columns conditions
  pub after : shown_on (line_step term_lines sitting line).at.machine sitting.at.channel ≡ select_next (shown_on sitting.at.machine sitting.at.channel) object columns conditions
  pub others : (other : ℕ) → ¬ (sitting.at.channel ≡ other) → shown_on (line_step term_lines sitting line).at.machine other ≡ shown_on sitting.at.machine other
  pub channel : (line_step term_lines sitting line).at.channel ≡ sitting.at.channel

-- so does each line that is this SELECT on an open channel, whatever lines stand before it
abbrev pub TermLinesSelectShown : Sitting → Type 0
TermLinesSelectShown from = (before : List (List ℕ)) (line object : List ℕ) (columns : Columns) (conditions : List Condition)
    → IsSelectLine (state_after term_lines from before).at line object columns conditions → TermLineSelectsShown (state_after term_lines from before) line object columns conditions
