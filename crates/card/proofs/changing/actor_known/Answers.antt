-- Who is known to act is who acts.
use Rattle.card.proofs.changing.actor_known.Goals as goal

pub returns-in-Some-clause-actor : goal.returns-in-Some-clause-actor
returns-in-Some-clause-actor g c = λ db held. rw c.in-Some.is at (c.requires.known db held)
