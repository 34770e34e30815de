use Rattle.audit_run.proofs.Said.{says-judged}
use Rattle.audit_run.proofs.run.run_audit.Goals as goal

pub returns-in-Ok-clause-says : goal.returns-in-Ok-clause-says
returns-in-Ok-clause-says g c = says-judged c.say.result c.in-Ok.verdict _ _ _ c.in-Ok.ensures.judges c.say.ensures.says
