use Rattle.planner.proofs.Turning.{next_of-below}
use Rattle.planner.proofs.laws.a_plan_comes_to_its_end.Goals as goal

pub returns : goal.returns
returns c = next_of-below
