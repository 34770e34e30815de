use Rattle.planner.proofs.Statements.{statement-runs}
use Rattle.planner.proofs.laws.statements_run_to_their_meaning.Goals as goal

pub returns : goal.returns
returns c = λ m channel s valid can. statement-runs m channel valid s can
