-- A transaction begins, if none is open.
use Rattle.std.proofs.Common.{rules, ◌≡◌, ℕ, List, Some, sym, ap, subst, ◌∙◌}
use Rattle.record_store.specs.Held.{contents}
use Rattle.record_store.specs.Transaction.{begun_from}
use Rattle.record_store.specs.declared.side.Side.TheVariants.{Committed, Working}
use Rattle.scql_model.specs.Sessions.{without_pending}
use Rattle.card.specs.Answering.{changing_session}
use Rattle.card.specs.Card.{Kept}
use Rattle.card.proofs.Transacting.{HoldsAnswer-begun, none-is}
use Rattle.card.proofs.engine.Engine.begin.Goals as goal

pub returns : goal.returns
returns c = record {
  step = λ chip m at.
      HoldsAnswer-begun c.args.self.now c.drop_pending.new.self c.begin.new.self.store c.begin.new.self.index chip m c.args.channel.number
      (ap (λ (kept : Kept). kept.transaction) (sym c.self.view_is) ∙ none-is c.self.inside.transaction (sym c.if-is_some.ensures)) at
      (c.begin.ensures.store ∙ ap (λ (kept : Kept). begun_from kept.store) c.self.view_is)
      (subst (λ (kept : Kept). (image : List ℕ) → contents c.begin.new.self.store Working image ≡ contents kept.store Committed image) c.self.view_is c.begin.ensures.starts)
      (subst (λ (kept : Kept). (image : List ℕ) → contents c.begin.new.self.store Committed image ≡ contents kept.store Committed image) c.self.view_is c.begin.ensures.committed)
      (c.drop_pending.ensures ∙ ap (λ (kept : Kept). changing_session without_pending (record kept { store = c.begin.new.self.store; index = c.begin.new.self.index; transaction = Some c.args.channel.number }) c.args.channel.number) c.self.view_is);
  ready = search rules;
  cells = search rules;
}
