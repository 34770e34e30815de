use Rattle.scql_model.proofs.ReadingSteps.{stepped-reply, stepped-shown, stepped-others}
use Rattle.scql_model.proofs.laws.reading.a_step_reads_what_is_shown.Goals as goal

pub returns-clause-reply : goal.returns-clause-reply
returns-clause-reply c = stepped-reply

pub returns-clause-after : goal.returns-clause-after
returns-clause-after c = stepped-shown

pub returns-clause-others : goal.returns-clause-others
returns-clause-others c = stepped-others
