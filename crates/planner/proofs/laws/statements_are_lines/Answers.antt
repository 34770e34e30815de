use Rattle.planner.proofs.StatementsLawful.{statements-lawful}
use Rattle.planner.proofs.laws.statements_are_lines.Goals as goal

pub returns : goal.returns
returns c = statements-lawful
