-- The new view is the model's, and so is the database with it.
use Rattle.std.proofs.Common.{rules, ◌≡◌, refl, sym, ap, subst, ◌∙◌}
use Rattle.record_store.specs.declared.side.Side.TheVariants.{Working}
use Rattle.scql_base.specs.declared.records.ObjectKind.TheVariants.{View}
use Rattle.scql_model.specs.Creating.{actor_stamp}
use Rattle.scql_model.specs.Defining.{new_object, view_created}
use Rattle.scql_model.specs.ReadingCommands.{wanted_of}
use Rattle.record_table.specs.Making.{IsHeld}
use Rattle.record_table.proofs.Ending.{Ends-stopped}
use Rattle.row_table.proofs.Endings.{Ended-after, Ended-before, Ended-stopped}
use Rattle.db_define.proofs.ObjectMade.{of-anew}
use Rattle.db_define.proofs.ViewMade.{valid-view}
use Rattle.db_define.proofs.view.create_view.Goals as goal

pub returns-in_err-base-clause-ended : goal.returns-in_err-base-clause-ended
returns-in_err-base-clause-ended g c = Ended-stopped c.in_err-base.field-0.0 c.requires.open.stand c.from_residual.ensures.1 (search rules) (search rules) (λ db held may. c.in_err-base.ensures.answers db held c.args.name)

pub returns-in_err-counter-clause-ended : goal.returns-in_err-counter-clause-ended
returns-in_err-counter-clause-ended g c =
    let still : g.B.Eeprom.chip c.find_new_stamp.new.bench ≡ g.B.Eeprom.chip c.args.bench.now = search rules in
    let before = sym c.in_err-counter.ensures.finds.frame.same ∙ still in
    Ended-before c.requires.open.stand still (search rules) (λ db held may.
    let kind = View c.in_ok-base.base.stamp (wanted_of c.in_ok-base.base.columns c.args.columns.now) c.args.conditions.now in
    let is = c.in_ok-base.ensures.answers db held c.args.name in
    let there = subst (λ chip. IsHeld c.args.tables.now.store Working chip db) (sym before) held in
    rw (sym is) (Ends-stopped (Unit {0}) db _ c.from_residual-in_err-counter.result c.in_err-counter.field-0.0 _ _ _ _ c.from_residual-in_err-counter.ensures.1
    (rw before at (c.in_err-counter.ensures.refused db (new_object db c.args.actor c.args.name kind) there refl))))

pub returns-clause-ended : goal.returns-clause-ended
returns-clause-ended g c =
    let still : g.B.Eeprom.chip c.find_new_stamp.new.bench ≡ g.B.Eeprom.chip c.args.bench.now = search rules in
    Ended-after c.make.ensures.ended still (search rules) (λ db held may.
    let kind = View c.in_ok-base.base.stamp (wanted_of c.in_ok-base.base.columns c.args.columns.now) c.args.conditions.now in
    let there = subst (λ chip. IsHeld c.args.tables.now.store Working chip db) (sym (sym c.in_ok-counter.ensures.finds.frame.same ∙ still)) held in
    let next = ap (λ counter. counter.value) c.counter.view_is ∙ c.in_ok-counter.ensures.finds.next db there in
    let same = c.new_view-view.ensures.view ∙ ap (λ stamp. record { stamp = stamp; name = c.args.name; owner = actor_stamp c.args.actor; kind = kind }) next in
    of-anew db (view_created db c.args.actor c.args.name c.args.base c.args.columns.now c.args.conditions.now) (new_object db c.args.actor c.args.name kind) c.new_view-view.result (c.in_ok-base.ensures.answers db held c.args.name)
    (c.in_ok-counter.ensures.free db there) refl same (λ edits is. valid-view db c.args.actor c.args.name c.args.base c.args.columns.now c.args.conditions.now edits held.valid may.0 may.1 c.requires.short is))

pub returns-clause-rows : goal.returns-clause-rows
returns-clause-rows g c =
    let still : g.B.Eeprom.chip c.find_new_stamp.new.bench ≡ g.B.Eeprom.chip c.args.bench.now = search rules in
    rw still at c.make.ensures.rows
