-- Each line of a run of statements that is a SELECT reads what is shown.
use Rattle.std.proofs.Common.{◌≡◌, ℕ, List, [], ◌∷◌, refl, subst, sym}
use Rattle.scql_base.specs.declared.condition.Condition.{Condition}
use Rattle.scql_model.specs.Database.{Database, IsValid}
use Rattle.scql_model.specs.Lines.{line_step, line_text, state_after}
use Rattle.scql_model.specs.Matching.{Columns}
use Rattle.planner.specs.SelectLines.{IsSelectLine, SelectsShown}
use Rattle.planner.specs.StatementLines.{TerminalState, statement_lines}
use Rattle.planner.proofs.SelectLines.{lines-select-shown}
use Rattle.planner.proofs.ValidLines.{begins-valid}
use Rattle.card_run.specs.Selecting.{TermLineSelectsShown, TermLinesSelectShown}
use Rattle.card_run.specs.Statements.{Sitting, opened, term_lines}

-- a run of statements is where its terminal is
sits-at : (sitting : Sitting) (before : List (List ℕ)) → (state_after term_lines sitting before).at ≡ state_after statement_lines sitting.at before
unfolding line_step
sits-at sitting [] = refl
sits-at sitting (line ∷ before) = sits-at (line_step term_lines sitting line) before

selects-so : (sitting : Sitting) (line object : List ℕ) (columns : Columns) (conditions : List Condition) → SelectsShown sitting.at line object columns conditions → TermLineSelectsShown sitting line object columns conditions
unfolding line_text line_step
selects-so sitting line object columns conditions selects = record { text = selects.text; after = selects.after; others = selects.others; channel = selects.channel }

pub term-lines-select-shown : (db : Database) → IsValid db → TermLinesSelectShown (opened db)
term-lines-select-shown db valid = λ before line object columns conditions is.
    let at = sits-at (opened db) before in
    selects-so (state_after term_lines (opened db) before) line object columns conditions
    (subst (λ (state : TerminalState). SelectsShown state line object columns conditions) (sym at)
    (lines-select-shown (opened db).at (begins-valid db valid) before line object columns conditions (subst (λ (state : TerminalState). IsSelectLine state line object columns conditions) at is)))
