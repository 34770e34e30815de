use Rattle.card_c.proofs.Begun.{ready-begun}
use Rattle.card_c.proofs.card_desk.CardDesk.begin_in.Goals as goal

pub invariant_of-self : goal.invariant_of-self
invariant_of-self c = λ live. ready-begun c.self.inside.card c.self.inside.bench c.begin_in.new.self c.begin_in.ensures.image (c.self.invariant live)
