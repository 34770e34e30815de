use Rattle.scql_model.specs.Lines.{command_lines}
use Rattle.scql_model.proofs.AnswerWords.{step-costs}
use Rattle.scql_model.proofs.Hearing.{commands-lawful}
use Rattle.scql_model.proofs.LivesRestore.{life-restored}
use Rattle.scql_model.proofs.SparingSteps.{commands-spare, restored-step}
use Rattle.scql_model.proofs.WrongSecrets.{costs-lowers}
use Rattle.scql_model.specs.Accepting.{channel_named}
use Rattle.scql_model.specs.Step.{step}
use Rattle.scql_model.proofs.laws.lives.no_four_commits_of_a_life_lower_a_user_unrestored.Goals as goal

pub returns-clause-any : goal.returns-clause-any
returns-clause-any g c = life-restored

pub returns-clause-commands : goal.returns-clause-commands
returns-clause-commands g c = commands-spare

pub returns-clause-of_commands : goal.returns-clause-of_commands
returns-clause-of_commands g c = λ db runs stamp before stretch after. life-restored command_lines db runs stamp before stretch after commands-lawful commands-spare

pub returns-clause-wrong : goal.returns-clause-wrong
returns-clause-wrong g c = λ m octets n is. costs-lowers m (channel_named octets) (step m octets) (step-costs m octets n is)

pub returns-clause-right : goal.returns-clause-right
returns-clause-right g c = restored-step
