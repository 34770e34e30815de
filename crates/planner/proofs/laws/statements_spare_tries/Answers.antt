use Rattle.planner.proofs.StatementsSpare.{statements-spare}
use Rattle.planner.proofs.laws.statements_spare_tries.Goals as goal

pub returns : goal.returns
returns c = statements-spare
