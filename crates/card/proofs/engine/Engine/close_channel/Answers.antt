-- A channel is closed that was open.
use Rattle.std.proofs.Common.{rules, refl, sym, ap, ◌∙◌}
use Rattle.scql_model.specs.Sessions.{without_pending}
use Rattle.card.specs.Answering.{changing_session}
use Rattle.card.specs.Card.{Kept}
use Rattle.card.proofs.ManagedChannels.{HoldsAnswer-closed}
use Rattle.card.proofs.Sides.{StandsOver-sessions}
use Rattle.card.proofs.engine.Engine.close_channel.Goals as goal

pub returns : goal.returns
returns c = record {
  step = λ chip m at.
      HoldsAnswer-closed c.args.self.now chip m c.args.asking.number at.held c.drop_pending.new.self c.args.channel.number (sym c.if-not-is_open.ensures.is) (sym c.has_transaction.ensures ∙ c.if-has_transaction.false)
      (c.drop_pending.ensures ∙ ap (λ (kept : Kept). changing_session without_pending kept c.args.asking.number) c.set_session.ensures);
  ready = λ chip ready. StandsOver-sessions c.args.self.now c.drop_pending.new.self chip chip _ (c.drop_pending.ensures ∙ ap (λ (kept : Kept). changing_session without_pending kept c.args.asking.number) c.set_session.ensures) refl ready;
  cells = search rules;
}
