-- Each line that is a SELECT prints what is shown.
use Rattle.std.proofs.Common.{◌≡◌, List, ℕ, ap, ◌∙◌}
use Rattle.scql_base.specs.declared.condition.Condition.{Condition}
use Rattle.scql_model.specs.Lines.{Effect, line_effect, line_step, line_text, state_after}
use Rattle.scql_model.specs.Machine.{base}
use Rattle.scql_model.specs.Matching.{Columns}
use Rattle.scql_model.specs.Shown.{shown_on}
use Rattle.scql_model.proofs.ReadingIsShown.{IsReadable-valid}
use Rattle.scql_model.proofs.ValidSteps.{valid-base}
use Rattle.script.specs.declared.statement.Statement.TheVariants.{Select}
use Rattle.planner.specs.Meaning.{meaning}
use Rattle.planner.specs.SelectLines.{IsSelectLine, LinesSelectShown, SelectsShown}
use Rattle.planner.specs.StatementLines.{TerminalState, meant, read_effect, statement_effect, statement_lines}
use Rattle.planner.specs.ValidStates.{IsValidState}
use Rattle.planner.proofs.SelectsShown.{select-reads}
use Rattle.planner.proofs.ValidLines.{lines-keep}

selects-line : (state : TerminalState) (line object : List ℕ) (columns : Columns) (conditions : List Condition) → IsValidState state
    → IsSelectLine state line object columns conditions → SelectsShown state line object columns conditions
unfolding line_text line_step
selects-line state line object columns conditions valid is =
    let readable = IsReadable-valid (base state.machine state.channel) (valid-base state.machine state.channel valid.machine).valid in
    let law = select-reads state.machine state.channel object columns conditions is.opened readable in
    let same : line_effect statement_lines state line ≡ meant (meaning state.machine state.channel (Select object columns conditions)) =
    ap (statement_effect state) is.taken ∙ ap (read_effect state) is.statement in
    record {
      text = ap (λ (effect : Effect TerminalState). effect.text) same ∙ law.text;
      after = ap (λ (effect : Effect TerminalState). shown_on effect.next.machine state.channel) same ∙ law.after;
      others = λ other apart. ap (λ (effect : Effect TerminalState). shown_on effect.next.machine other) same ∙ law.others other apart;
      channel = ap (λ (effect : Effect TerminalState). effect.next.channel) same ∙ law.channel_stays;
    }

pub lines-select-shown : (from : TerminalState) → IsValidState from → LinesSelectShown from
lines-select-shown from valid = λ before line object columns conditions is. selects-line (state_after statement_lines from before) line object columns conditions (lines-keep from before valid) is
