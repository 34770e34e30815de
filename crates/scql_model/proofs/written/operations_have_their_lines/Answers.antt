use Rattle.scql_model.proofs.LinesFound.{HasLine-operations}
use Rattle.scql_model.proofs.written.operations_have_their_lines.Goals as goal

pub returns : goal.returns
returns c = HasLine-operations
