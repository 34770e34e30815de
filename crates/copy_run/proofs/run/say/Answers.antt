use Rattle.std.proofs.Common.{◌∙◌}
use Rattle.terminal.proofs.Went.{start-of}
use Rattle.copy_run.proofs.run.say.Goals as goal

pub returns-in-Err-clause-says : goal.returns-in-Err-clause-says
returns-in-Err-clause-says g c = (start-of _ _ _ _ (c.deref.ensures.0 ∙ c.copy_text.ensures) c.in-Err.ensures.err, c.in-Err.ensures.cause.1)
