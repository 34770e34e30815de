use Rattle.planner.proofs.Brief.{brief-runs}
use Rattle.planner.proofs.laws.brief_statements_run_to_their_meaning.Goals as goal

pub returns : goal.returns
returns c = brief-runs
