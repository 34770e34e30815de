-- The session of the channel, if it has one, changes.
use Rattle.std.proofs.Common.{refl}
use Rattle.scql_model.specs.Sessions.{without_cursor}
use Rattle.plain_machine.proofs.SeenSessions.{found-changed, none-changed}
use Rattle.plain_machine.proofs.sessions.Sessions.drop_cursor.Goals.{in-Some, in_default}
use Rattle.plain_machine.proofs.sessions.Sessions.drop_cursor.Goals as goal

pub returns : goal.returns
returns c =
    elim c.match-self-place.branch [
      | in-Some w ↦ rw (w.self-inside-is, ← c.place-place.ensures.place)
          (found-changed c.self.inside.channels c.self.inside.chains c.args.self.now c.place-place.result c.index-self-place.result c.self.invariant c.place-place.ensures.few c.self.view_is c.index-self-place.is
          without_cursor w.in-Some.session (record w.in-Some.session { reading = w.new-session.result }) w.in-Some.is (λ chain. rw w.new-session.ensures refl))
      | in_default w ↦ rw (w.self-inside-is, ← c.place-place.ensures.place)
          (none-changed c.self.inside.channels c.self.inside.chains c.args.self.now c.place-place.result c.index-self-place.result c.self.invariant c.place-place.ensures.few c.self.view_is c.index-self-place.is
          without_cursor w.in_default.is)
    ]
