use Rattle.std.proofs.Common.{refl, ◌∙◌}
use Rattle.audit_run.proofs.Said.{cut-short}
use Rattle.audit_run.proofs.run.say.Goals as goal

pub returns-in-Err-clause-says : goal.returns-in-Err-clause-says
returns-in-Err-clause-says g c = (c.args.verdict, refl, cut-short _ _ _ _ (c.deref.ensures.0 ∙ c.verdict_text.ensures) c.in-Err.ensures.err)
