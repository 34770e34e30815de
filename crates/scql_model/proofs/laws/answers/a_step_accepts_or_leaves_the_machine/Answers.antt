use Rattle.scql_model.proofs.LastCommits.{last-step}
use Rattle.scql_model.proofs.Refusing.{step-accepts_or_leaves}
use Rattle.scql_model.proofs.laws.answers.a_step_accepts_or_leaves_the_machine.Goals as goal

pub returns-clause-accepts : goal.returns-clause-accepts
returns-clause-accepts c = step-accepts_or_leaves

pub returns-clause-last : goal.returns-clause-last
returns-clause-last c = last-step
