use Rattle.scql_model.proofs.Folding.{folded}
use Rattle.scql_model.proofs.LivesRestore.{life-restored}
use Rattle.card_run.specs.Living.{card_lines}
use Rattle.card_run.proofs.Living.{card-lawful, card-spares, read-each}
use Rattle.card_run.proofs.laws.a_card_lives_as_one_machine.Goals as goal

pub returns-clause-lawful : goal.returns-clause-lawful
returns-clause-lawful c = card-lawful

pub returns-clause-spares : goal.returns-clause-spares
returns-clause-spares c = card-spares

pub returns-clause-folded : goal.returns-clause-folded
returns-clause-folded c = folded card_lines

pub returns-clause-read : goal.returns-clause-read
returns-clause-read c = read-each

pub returns-clause-restored : goal.returns-clause-restored
returns-clause-restored c = λ db image runs stamp before stretch after opens are split. life-restored card_lines db runs stamp before stretch after card-lawful card-spares opens.valid are split
