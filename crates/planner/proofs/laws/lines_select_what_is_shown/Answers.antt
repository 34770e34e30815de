use Rattle.planner.proofs.SelectLines.{lines-select-shown}
use Rattle.planner.proofs.laws.lines_select_what_is_shown.Goals as goal

pub returns : goal.returns
returns c = lines-select-shown
