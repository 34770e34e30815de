use Rattle.line_input.proofs.CutLines.{lines-open, lines-closed}
use Rattle.line_input.proofs.laws.lines_end_where_the_input_does.Goals as goal

pub returns-clause-open : goal.returns-clause-open
returns-clause-open c = lines-open

pub returns-clause-closed : goal.returns-clause-closed
returns-clause-closed c = lines-closed
