use Rattle.planner.proofs.Selected.{select-open}
use Rattle.planner.proofs.laws.a_select_runs_to_its_meaning.Goals as goal

pub returns : goal.returns
returns c = select-open
