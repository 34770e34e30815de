use Rattle.std.proofs.Common.{ap}
use Rattle.scql_model.proofs.WithoutTouched.{step-without_touched, reset-without_touched}
use Rattle.scql_model.specs.Step.{Answer}
use Rattle.scql_model.proofs.laws.touched.no_answer_goes_by_what_is_touched.Goals as goal

pub returns-clause-reply : goal.returns-clause-reply
returns-clause-reply c = λ m n octets same. ap (λ (a : Answer). a.reply) (step-without_touched m n octets same)

pub returns-clause-commits : goal.returns-clause-commits
returns-clause-commits c = λ m n octets same. ap (λ (a : Answer). a.commits) (step-without_touched m n octets same)

pub returns-clause-machine : goal.returns-clause-machine
returns-clause-machine c = λ m n octets same. ap (λ (a : Answer). a.machine) (step-without_touched m n octets same)

pub returns-clause-reset : goal.returns-clause-reset
returns-clause-reset c = reset-without_touched
