-- A channel with a session is open.
use Rattle.std.proofs.Common.{sym, ◌∙◌}
use Rattle.card.proofs.SeenSessions.{four-sessions, open-card}
use Rattle.card.proofs.engine.Engine.open_channels.Goals as goal

pub returns : goal.returns
returns c =
    rw (c.is_some.ensures, c.is_some-2.ensures, c.is_some-3.ensures, c.is_some-4.ensures, c.deref.ensures) (four-sessions c.self.inside.sessions.value c.index-deref-0.result c.index-deref-1.result c.index-deref-2.result c.index-deref-3.result c.self.invariant.0)
    ∙ open-card c.self.inside.tables.store c.self.inside.tables.index c.self.inside.transaction c.self.inside.found.value c.self.inside.live c.self.inside.sessions.value c.self.inside.chains.value c.args.self.now c.self.view_is (c.self.invariant.0 ∙ sym c.self.invariant.1)
