use Rattle.planner.proofs.Closed.{closed-run}
use Rattle.planner.proofs.laws.a_closed_channel_refuses_statements_of_rows.Goals as goal

pub returns : goal.returns
returns c = closed-run
