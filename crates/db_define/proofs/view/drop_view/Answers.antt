-- The object goes with the grants on it, and the index stands still.
use Rattle.std.proofs.Common.{rules, refl, ◌∙◌}
use Rattle.scql_model.specs.Defining.{removing_object}
use Rattle.record_table.proofs.MadeLeft.{of-told}
use Rattle.row_table.proofs.Endings.{Ended-in_memory}
use Rattle.db_define.specs.Dropped.{IsToDrop}
use Rattle.db_define.specs.declared.dropped.Dropped.TheVariants.{View}
use Rattle.db_define.proofs.ObjectLeft.{KeepsRows-granted, Makes-view_dropped}
use Rattle.db_define.proofs.view.drop_view.Goals as goal

pub returns : goal.returns
returns g c =
    let old = c.args.tables.now.store in
    let new = c.remove_with_grants.new.self.store in
    let chip = g.B.Eeprom.chip c.args.bench.now in
    let view = c.in_ok-view.view in
    let found = c.in_ok-view.ensures in
    let gone = c.in_ok-remove_with_grants.ensures.sweeps in
    let left = rw (gone.frame.same, found.frame.same) at gone.removed in
    let committed = rw (gone.frame.same, found.frame.same) at gone.committed in
    Ended-in_memory c.requires.open.stand (gone.frame.same ∙ found.frame.same) (search rules) c.in_ok-remove_with_grants.ensures.index_same (λ db held any.
    let there = of-told old chip held.slots (IsToDrop View old chip c.args.actor c.args.name view) held.told found.found in (
      removing_object db there.object,
      there.drops db held,
      Makes-view_dropped db c.args.actor c.args.name view old new chip held there left gone.cells gone.rows committed (rw found.frame.same at gone.entries) (rw found.frame.same at gone.only),
    ))
    (record { begun = gone.begun; cells = gone.cells; rows = gone.rows; told = refl; over = rw (gone.frame.same, found.frame.same) at gone.over })
    (KeepsRows-granted View c.args.actor c.args.name view old new chip c.requires.open.stand.over.stands found.found left) committed
