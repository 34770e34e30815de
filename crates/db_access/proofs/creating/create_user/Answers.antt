-- The new user is the model's, and so is the database with it.
use Rattle.std.proofs.Common.{rules, ap, subst, ◌∙◌}
use Rattle.record_store.specs.declared.side.Side.TheVariants.{Working}
use Rattle.record_table.specs.Making.{IsHeld}
use Rattle.row_table.proofs.Endings.{Ended-after}
use Rattle.db_access.proofs.Asking.{IsToBeMade-asked, of-asked}
use Rattle.db_access.proofs.creating.create_user.Goals as goal

pub returns : goal.returns
returns g c = Ended-after c.make.ensures.ended (search rules) (search rules) (λ db held may.
    let asked = IsToBeMade-asked db c.args.actor c.args.name c.args.profile c.args.secret.now c.in-Some.owner c.in_ok-is_taken.field-0 held.valid may.0 may.1 c.in-Some.ensures (c.in_ok-is_taken.ensures.asks.answers db held) c.if-branch.false in
    let next = ap (λ counter. counter.value) c.counter.view_is ∙ c.in_ok-counter.ensures.finds.next db (subst (λ chip. IsHeld c.args.tables.now.store Working chip db) (search rules) held) in
    of-asked db c.args.actor c.args.name c.args.profile c.args.secret.now c.in-Some.owner _ _ asked next c.copy.ensures)
