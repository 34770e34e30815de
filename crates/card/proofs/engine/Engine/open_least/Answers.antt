-- The least channel that is closed is opened, and its number said.
use Rattle.std.proofs.Common.{rules, refl, ◌≡◌, ℕ, List, [], ◌∷◌, ◌++◌, sym, ap, subst, ◌∙◌}
use Rattle.scql_base.specs.Words.{done}
use Rattle.scql_model.specs.Replies.{Reply}
use Rattle.scql_model.specs.Sessions.{without_pending}
use Rattle.scql_model.specs.Step.{answered, channel_opened}
use Rattle.card.specs.Answering.{HoldsAnswer, changing_session, replied}
use Rattle.card.specs.Card.{Kept}
use Rattle.card.proofs.ManagedChannels.{HoldsAnswer-least}
use Rattle.card.proofs.Sides.{StandsOver-sessions}
use Rattle.card.proofs.engine.Engine.open_least.Goals as goal

pub returns : goal.returns
returns c = record {
  step = λ chip m at.
      let number = c.in-Some.channel.number in
      let asking = c.args.asking.number in
      let body : c.push.new.self.items ≡ number ∷ [] = c.push.ensures.items ∙ ap (λ (octets : List ℕ). octets ++ number ∷ []) (ap (λ (sent : Reply). sent.body) c.reply.view_is ∙ c.without_body.ensures) in
      subst (λ (body : List ℕ). HoldsAnswer (answered m (channel_opened m asking 0)) (replied body done) c.drop_pending.new.self chip) (sym body)
      (HoldsAnswer-least c.args.self.now chip m asking at.held c.drop_pending.new.self number (sym c.in-Some.ensures.least)
      (c.drop_pending.ensures ∙ ap (λ (kept : Kept). changing_session without_pending kept asking) c.set_user.ensures));
  ready = λ chip ready. StandsOver-sessions c.args.self.now c.drop_pending.new.self chip chip _ (c.drop_pending.ensures ∙ ap (λ (kept : Kept). changing_session without_pending kept c.args.asking.number) c.set_user.ensures) refl ready;
  cells = search rules;
}
