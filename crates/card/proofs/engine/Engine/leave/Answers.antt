-- Each session of the program that is left is seen as one that is.
use Rattle.card.proofs.DeletedSessions.{card-left}
use Rattle.card.proofs.engine.Engine.leave.Goals as goal

pub returns : goal.returns
returns c =
    card-left c.args.stamp c.self.inside.tables.store c.self.inside.tables.index c.self.inside.transaction c.self.inside.found.value c.self.inside.live c.self.inside.sessions.value c.leave_each.new.sessions c.self.inside.chains.value c.args.self.now c.self.view_is (rw c.deref_mut.ensures.value at c.leave_each.ensures)
