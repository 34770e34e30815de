-- What is read is the record of who acts.
use Rattle.std.proofs.Common.{rules}
use Rattle.card.proofs.engine.Engine.actor_reading.Goals as goal

pub returns-clause-octets_read : goal.returns-clause-octets_read
returns-clause-octets_read g c = λ db held. c.actor_of.ensures.octets_read db (search rules)
