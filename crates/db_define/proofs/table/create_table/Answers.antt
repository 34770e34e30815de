-- The new table is the model's, and so is the database with it.
use Rattle.std.proofs.Common.{rules, refl, sym, ap, ◌∙◌}
use Rattle.scql_base.specs.declared.records.ObjectKind.TheVariants.{Table}
use Rattle.scql_model.specs.Creating.{actor_stamp}
use Rattle.scql_model.specs.Defining.{new_object, object_created}
use Rattle.record_table.proofs.Ending.{Ends-stopped}
use Rattle.row_table.proofs.Endings.{Ended-after, Ended-before}
use Rattle.db_define.proofs.ObjectMade.{creates, creates-not, of-anew, valid-table}
use Rattle.db_define.proofs.table.create_table.Goals as goal

pub returns-then-not-makes_objects-clause-ended : goal.returns-then-not-makes_objects-clause-ended
returns-then-not-makes_objects-clause-ended g c = Ended-before c.requires.open.stand refl (search rules) (λ db held may.
    rw c.refused.ensures (creates-not db c.args.actor c.args.name (Table c.args.columns.now) (sym c.makes_objects.ensures ∙ c.if-not-makes_objects.true), refl, refl))

pub returns-in_err-counter-clause-ended : goal.returns-in_err-counter-clause-ended
returns-in_err-counter-clause-ended g c = Ended-before c.requires.open.stand c.in_err-counter.ensures.finds.frame.same (search rules) (λ db held may.
    let is = creates db c.args.actor c.args.name (Table c.args.columns.now) (sym c.makes_objects.ensures ∙ c.if-not-makes_objects.false) in
    rw (sym is) (Ends-stopped (Unit {0}) db _ c.from_residual.result c.in_err-counter.field-0.0 _ _ _ _ c.from_residual.ensures.1
    (c.in_err-counter.ensures.refused db (new_object db c.args.actor c.args.name (Table c.args.columns.now)) held refl)))

pub returns-clause-ended : goal.returns-clause-ended
returns-clause-ended g c = Ended-after c.make.ensures.ended c.in_ok-counter.ensures.finds.frame.same c.in_ok-counter.ensures.finds.frame.counts.1 (λ db held may.
    let asked = new_object db c.args.actor c.args.name (Table c.args.columns.now) in
    let next = ap (λ counter. counter.value) c.counter.view_is ∙ c.in_ok-counter.ensures.finds.next db held in
    let same = c.new_table-table.ensures.table ∙ ap (λ stamp. record { stamp = stamp; name = c.args.name; owner = actor_stamp c.args.actor; kind = Table c.args.columns.now }) next in
    of-anew db (object_created db c.args.actor c.args.name (Table c.args.columns.now)) asked c.new_table-table.result (creates db c.args.actor c.args.name (Table c.args.columns.now) (sym c.makes_objects.ensures ∙ c.if-not-makes_objects.false))
    (c.in_ok-counter.ensures.free db held) refl same (λ edits is. valid-table db c.args.actor c.args.name c.args.columns.now edits held.valid may.0 may.1 is))

pub returns-clause-rows : goal.returns-clause-rows
returns-clause-rows g c = rw c.in_ok-counter.ensures.finds.frame.same at c.make.ensures.rows
