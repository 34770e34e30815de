-- A channel is opened that was closed.
use Rattle.std.proofs.Common.{rules, refl, sym, ap, ◌∙◌}
use Rattle.scql_model.specs.Sessions.{without_pending}
use Rattle.card.specs.Answering.{changing_session}
use Rattle.card.specs.Card.{Kept}
use Rattle.card.proofs.ManagedChannels.{HoldsAnswer-named}
use Rattle.card.proofs.Sides.{StandsOver-sessions}
use Rattle.card.proofs.engine.Engine.open_named.Goals as goal

pub returns : goal.returns
returns c = record {
  step = λ chip m at.
      HoldsAnswer-named c.args.self.now chip m c.args.asking.number at.held c.drop_pending.new.self c.args.channel.number c.requires.named (sym c.is_open.ensures.is ∙ c.if-is_open.false)
      (c.drop_pending.ensures ∙ ap (λ (kept : Kept). changing_session without_pending kept c.args.asking.number) c.set_user.ensures);
  ready = λ chip ready. StandsOver-sessions c.args.self.now c.drop_pending.new.self chip chip _ (c.drop_pending.ensures ∙ ap (λ (kept : Kept). changing_session without_pending kept c.args.asking.number) c.set_user.ensures) refl ready;
  cells = search rules;
}
