use Rattle.planner.proofs.SelectsShown.{select-reads}
use Rattle.planner.proofs.laws.a_select_reads_what_is_shown.Goals as goal

pub returns : goal.returns
returns c = select-reads
