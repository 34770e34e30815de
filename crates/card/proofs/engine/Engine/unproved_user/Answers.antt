-- The user of a channel's session is the one that the model sees.
use Rattle.std.proofs.Common.{sym, ap, ◌∙◌, arith}
use Rattle.std.specs.Prelude.{option_and_then}
use Rattle.card.specs.Proved.{unproved_stamp}
use Rattle.card.proofs.SeenSessions.{index-there, user-card}
use Rattle.card.proofs.engine.Engine.unproved_user.Goals as goal

pub returns-in-Some : goal.returns-in-Some
returns-in-Some c =
    let there = index-there c.self.inside.sessions.value c.args.channel.number c.index-deref-channel.result (omega (arith, c.args.channel.few, c.self.invariant.0)) (rw c.deref.ensures at c.index-deref-channel.is) ∙ (c.index-deref-channel.is ∙ c.in-Some.is) in
    c.unproved_user.ensures ∙ sym (ap (option_and_then unproved_stamp) (user-card c.self.inside.tables.store c.self.inside.tables.index c.self.inside.transaction c.self.inside.found.value c.self.inside.live c.self.inside.sessions.value c.self.inside.chains.value c.args.self.now c.self.view_is (c.self.invariant.0 ∙ sym c.self.invariant.1) c.args.channel.number c.in-Some.session there))
