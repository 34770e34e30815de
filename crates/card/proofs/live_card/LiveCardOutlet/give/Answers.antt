use Rattle.card.specs.CardLaws.{IsReady-given}
use Rattle.card.proofs.live_card.LiveCardOutlet.give.Goals as goal

pub invariant_of-self : goal.invariant_of-self
invariant_of-self g c = λ live. (let gives = (g.met.B.Bench.gives _ _ c.give.ensures.rest).0 in IsReady-given c.self.inside.card _ _ gives.image gives.size (c.self.invariant live))
