use Rattle.scql_model.proofs.PartsAgain.{parts_some, parts_enough, parts_least}
use Rattle.scql_model.proofs.written.parts_are_the_least.Goals as goal

pub returns-clause-some : goal.returns-clause-some
returns-clause-some c = parts_some

pub returns-clause-enough : goal.returns-clause-enough
returns-clause-enough c = parts_enough

pub returns-clause-least : goal.returns-clause-least
returns-clause-least c = parts_least
