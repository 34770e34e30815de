use Rattle.std.proofs.Common.{rules}
use Rattle.card_c.proofs.huwapire_new.Goals as goal

pub returns-in-Some-clause-puts : goal.returns-in-Some-clause-puts
returns-in-Some-clause-puts c = record { done = λ is. (_, c.put.ensures, c.in-Some.ensures); handle = search rules; refused = search rules }
