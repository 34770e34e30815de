use Rattle.std.proofs.Common.{Err, ap, rules}
use Rattle.card_c.proofs.huwapire_open.Goals as goal

pub returns-in-Ok-clause-puts : goal.returns-in-Ok-clause-puts
returns-in-Ok-clause-puts c = record { done = λ is. (_, c.put.ensures, c.in-Ok.ensures.opened); handle = search rules; refused = search rules }

pub returns-in-Err-clause-not_a_card : goal.returns-in-Err-clause-not_a_card
returns-in-Err-clause-not_a_card c is db opens = c.in-Err.ensures.not_a_card (ap Err is) db opens
