use Rattle.scql_model.proofs.ValidSteps.{IsValidMachine-start, IsValidAnswer-step}
use Rattle.scql_model.proofs.laws.changes.a_step_keeps_a_machine_valid.Goals as goal

pub returns-clause-start : goal.returns-clause-start
returns-clause-start c = IsValidMachine-start

pub returns-clause-machine : goal.returns-clause-machine
returns-clause-machine c = λ m octets are valid. (IsValidAnswer-step m octets are valid).machine

pub returns-clause-commits : goal.returns-clause-commits
returns-clause-commits c = λ m octets are valid. (IsValidAnswer-step m octets are valid).commits
