-- The session of the channel is the one that is seen there.
use Rattle.std.proofs.Common.{Option, Some, ap, sym}
use Rattle.std.specs.Prelude.{option_and_then}
use Rattle.scql_model.specs.Machine as machine
use Rattle.plain_machine.proofs.SeenSessions.{found-session}
use Rattle.plain_machine.proofs.sessions.Sessions.user.Goals as goal

pub returns-in-Some : goal.returns-in-Some
returns-in-Some c =
    rw (← c.place-place.ensures.place)
    (sym (ap (λ (s : Option machine.Session). option_and_then (λ (s : machine.Session). s.user) s)
    (found-session c.self.inside.channels c.self.inside.chains c.args.self.now c.place-place.result c.index-self-place.result c.self.invariant c.place-place.ensures.few c.self.view_is c.index-self-place.is (Some c.in-Some.session) c.in-Some.is)))
