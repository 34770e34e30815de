use Rattle.line_input.proofs.CutLines.{cut-lines}
use Rattle.line_input.proofs.laws.lines_are_cut_as_they_come.Goals as goal

pub returns : goal.returns
returns c = cut-lines
