use Rattle.planner.proofs.ValidLines.{begins-valid, line-keeps, lines-keep}
use Rattle.planner.proofs.laws.lines_keep_a_machine_valid.Goals as goal

pub returns-clause-begins : goal.returns-clause-begins
returns-clause-begins c = begins-valid

pub returns-clause-line : goal.returns-clause-line
returns-clause-line c = line-keeps

pub returns-clause-lines : goal.returns-clause-lines
returns-clause-lines c = lines-keep
