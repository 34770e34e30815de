-- What was committed stays.
use Rattle.std.proofs.Common.{◌≡◌, ℕ, List, refl, ap, subst, ◌∙◌}
use Rattle.record_store.specs.Held.{contents}
use Rattle.record_store.specs.declared.side.Side.TheVariants.{Committed}
use Rattle.card.specs.Card.{Kept}
use Rattle.card.proofs.Transacting.{HoldsMachine-undone}
use Rattle.card.proofs.engine.Engine.undo.Goals as goal

pub returns-clause-holds : goal.returns-clause-holds
returns-clause-holds c = λ chip m at.
    HoldsMachine-undone c.args.self.now _ chip m at
    (subst (λ (kept : Kept). (image : List ℕ) → contents c.rollback.new.self.store Committed image ≡ contents kept.store Committed image) c.self.view_is c.rollback.ensures.committed)
    (c.rollback.ensures.rows ∙ ap (λ (kept : Kept). kept.store.row_limit) c.self.view_is) (ap (λ (kept : Kept). kept.sessions) c.self.view_is) refl
