use Rattle.card_c.proofs.Begun.{ready-begun}
use Rattle.card_c.proofs.card_desk.CardDesk.begin.Goals as goal

pub invariant_of-self : goal.invariant_of-self
invariant_of-self c = λ live. ready-begun c.self.inside.card c.self.inside.bench c.begin.new.self c.begin.ensures.image (c.self.invariant live)
