use Rattle.card_asking.proofs.Presented.{user-sent}
use Rattle.card_asking.proofs.presenting.presenting.Goals as goal

pub returns-clause-sendable : goal.returns-clause-sendable
returns-clause-sendable c = rw c.copy.ensures (user-sent c.args.user.now (rw c.octets.ensures.octets at c.octets.ensures.name) (rw c.octets.ensures.octets at c.octets.ensures.short))
