use Rattle.scql_model.proofs.CommandsAgain.{command-again}
use Rattle.scql_model.proofs.written.what_is_written_is_read_back.Goals as goal

pub returns : goal.returns
returns c = command-again
