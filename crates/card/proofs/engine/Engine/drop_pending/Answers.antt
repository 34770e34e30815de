-- Nothing is pending in the session of the channel, if it has one.
use Rattle.std.proofs.Common.{◌∙◌, List, Option, ap, refl, arith}
use Rattle.card.specs.Card.{Kept}
use Rattle.card.specs.Sessions.{sessions_of}
use Rattle.scql_model.specs.Sessions.{without_pending}
use Rattle.card.specs.declared.session.Session.{Session}
use Rattle.card.proofs.SeenSessions.{card-changed, card-none, index-there, set-again}
use Rattle.card.proofs.engine.Engine.drop_pending.Goals.{in-Some, in_default}
use Rattle.card.proofs.engine.Engine.drop_pending.Goals as goal

pub returns : goal.returns
returns c =
    let at = index-there c.self.inside.sessions.value c.args.channel.number c.index-deref_mut-channel.result (omega (arith, c.args.channel.few, c.self.invariant.0)) (rw c.deref_mut.ensures.value at c.index-deref_mut-channel.is) in
    elim c.match-deref_mut-channel.branch [
      | in-Some w ↦ rw (w.self-inside-is, c.deref_mut.ensures.value) (card-changed without_pending c.self.inside.tables.store c.self.inside.tables.index c.self.inside.transaction c.self.inside.found.value c.self.inside.live c.self.inside.sessions.value c.self.inside.chains.value c.args.channel.number w.in-Some.session
          (record w.in-Some.session { pending = w.forget.new.self }) c.args.self.now c.self.view_is (λ chain. rw w.forget.ensures refl) (at ∙ (c.index-deref_mut-channel.is ∙ w.in-Some.is)))
      | in_default w ↦ rw (w.self-inside-is, c.deref_mut.ensures.value) (ap (λ (sessions : List (Option Session)). let kept : Kept = record { store = c.self.inside.tables.store; index = c.self.inside.tables.index; sessions = sessions_of sessions c.self.inside.chains.value; transaction = c.self.inside.transaction; found = c.self.inside.found.value; live = c.self.inside.live } in kept)
          (set-again c.self.inside.sessions.value c.args.channel.number c.index-deref_mut-channel.result) ∙ (c.self.view_is ∙ card-none without_pending c.self.inside.tables.store c.self.inside.tables.index c.self.inside.transaction c.self.inside.found.value c.self.inside.live c.self.inside.sessions.value c.self.inside.chains.value c.args.channel.number c.args.self.now c.self.view_is
          (at ∙ (c.index-deref_mut-channel.is ∙ w.in_default.is))))
    ]
