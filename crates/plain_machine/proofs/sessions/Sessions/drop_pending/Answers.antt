-- The session of the channel, if it has one, changes.
use Rattle.std.proofs.Common.{refl}
use Rattle.scql_model.specs.Sessions.{without_pending}
use Rattle.plain_machine.proofs.SeenSessions.{found-changed, none-changed}
use Rattle.plain_machine.proofs.sessions.Sessions.drop_pending.Goals.{in-Some, in_default}
use Rattle.plain_machine.proofs.sessions.Sessions.drop_pending.Goals as goal

pub returns : goal.returns
returns c =
    elim c.match-self-place.branch [
      | in-Some w ↦ rw (w.self-inside-is, ← c.place-place.ensures.place)
          (found-changed c.self.inside.channels c.self.inside.chains c.args.self.now c.place-place.result c.index-self-place.result c.self.invariant c.place-place.ensures.few c.self.view_is c.index-self-place.is
          without_pending w.in-Some.session (record w.in-Some.session { reading = w.drop_pending.new.self }) w.in-Some.is (λ chain. rw w.drop_pending.ensures refl))
      | in_default w ↦ rw (w.self-inside-is, ← c.place-place.ensures.place)
          (none-changed c.self.inside.channels c.self.inside.chains c.args.self.now c.place-place.result c.index-self-place.result c.self.invariant c.place-place.ensures.few c.self.view_is c.index-self-place.is
          without_pending w.in_default.is)
    ]
