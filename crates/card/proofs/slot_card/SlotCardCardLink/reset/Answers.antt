use Rattle.std.proofs.Common.{rules}
use Rattle.card.specs.LiveCardLaws.{lasts-unwritten, opens-unwritten}
use Rattle.card.proofs.slot_card.SlotCardCardLink.reset.Goals as goal

pub returns-clause-moments : goal.returns-clause-moments
returns-clause-moments g c = rw (← c.self.view_is) (λ m at. opens-unwritten c.self.inside.card _ m at)

pub returns-clause-goes_on : goal.returns-clause-goes_on
returns-clause-goes_on g c = rw (← c.self.view_is) (lasts-unwritten _ _ _ (λ live. (search rules)) c.reset.ensures.cells)
