use Rattle.std.proofs.Common.{List, ℕ, Option, [], Some, ap, subst}
use Rattle.planner.specs.StatementLines.{TerminalState, statement_lines}
use Rattle.scql_model.specs.Lines.{Effect, line_effect}
use Rattle.terminal.specs.Holding.{terminal_at}
use Rattle.terminal.specs.declared.refusal.Refusal.TheVariants.{TooLong}
use Rattle.card_c.specs.Lines.{SaysLine}
use Rattle.card_c.proofs.Said.{says-line}
use Rattle.card_c.proofs.seat.say.Goals as goal

pub returns-in-None-clause-said : goal.returns-in-None-clause-said
returns-in-None-clause-said c m at knows =
    let state = terminal_at m c.args.terminal.now.channel in
    subst (λ (does : Effect TerminalState). SaysLine m does c.refuse_long_line.new.self c.refuse_long_line.result c.args.desk.now c.refuse_long_line.new.link)
    (ap (λ (line : Option (List ℕ)). statement_lines.effect state line) (rw c.in-None.is at c.of.ensures.taken))
    (says-line m _ [] (Some TooLong) _ _ _ _ (c.refuse_long_line.ensures.ended m at knows) c.refuse_long_line.ensures.leaves.ends_by)

pub returns-in-Some-clause-said : goal.returns-in-Some-clause-said
returns-in-Some-clause-said c m at knows =
    let state = terminal_at m c.args.terminal.now.channel in
    subst (λ (line : List ℕ). SaysLine m (line_effect statement_lines state line) c.line.new.self c.line.result c.args.desk.now c.line.new.link) c.in-Some.ensures.same
    (says-line m _ _ _ _ _ _ _ (c.line.ensures.ended m at knows) c.line.ensures.leaves.ends_by)
