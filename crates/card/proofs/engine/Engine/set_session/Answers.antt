use Rattle.card.proofs.SeenSessions.{sessions_of-set}
use Rattle.card.proofs.engine.Engine.set_session.Goals as goal

pub returns : goal.returns
returns c = rw c.deref_mut.ensures.value (sessions_of-set c.self.inside.tables.store c.self.inside.tables.index c.self.inside.transaction c.self.inside.found.value c.self.inside.live c.self.inside.sessions.value c.self.inside.chains.value c.forget.new.self c.args.channel.number c.args.session c.args.self.now c.self.view_is (rw c.deref_mut-2.ensures.value at c.forget.ensures))
