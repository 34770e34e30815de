-- A channel with a session is open.
use Rattle.std.proofs.Common.{ap, sym, ◌∙◌}
use Rattle.plain_machine.specs.Sessions.{are_open}
use Rattle.plain_machine.proofs.SeenSessions.{four-sessions, open-sessions}
use Rattle.plain_machine.proofs.sessions.Sessions.open_channels.Goals as goal

pub returns : goal.returns
returns c =
    rw (c.is_some.ensures, c.is_some-2.ensures, c.is_some-3.ensures, c.is_some-4.ensures) (four-sessions c.self.inside.channels c.index-self-0.result c.index-self-1.result c.index-self-2.result c.index-self-3.result c.self.invariant.0)
    ∙ (open-sessions c.self.inside.channels c.self.inside.chains (c.self.invariant.0 ∙ sym c.self.invariant.1) ∙ ap are_open c.self.view_is)
