-- The user goes, and then the grants to it.
use Rattle.std.proofs.Common.{rules, ◌≡◌, refl, sym, ap, ◌∙◌}
use Rattle.std.specs.Prelude.{option_map}
use Rattle.record_store.specs.declared.found.Found.{Found}
use Rattle.scql_base.specs.declared.records.User.{User}
use Rattle.scql_model.specs.Users.{removing_user, user_deleted}
use Rattle.row_table.proofs.Endings.{Ended-before, Ended-in_memory}
use Rattle.db_access.proofs.PairsFound.{Ends-unfound}
use Rattle.db_access.proofs.UserDeleted.{KeepsRows-user_deleted, Makes-user_deleted}
use Rattle.db_access.proofs.deleting.delete_user.Goals as goal

pub returns-in_err-user-clause-ended : goal.returns-in_err-user-clause-ended
returns-in_err-user-clause-ended g c = Ended-before c.requires.open.stand (search rules) (search rules) (λ db held any.
    Ends-unfound (λ (user : Found User). removing_user db user.value) (user_deleted db c.args.actor c.args.name) db (user_deleted db c.args.actor c.args.name) c.from_residual.result c.in_err-user.field-0.0 c.args.tables.now.store _ _
    c.from_residual.ensures.1 (c.in_err-user.ensures.asks.answers db held) (λ word is. is) (search rules))

pub returns-clause-ended : goal.returns-clause-ended
returns-clause-ended g c =
    let old = c.args.tables.now.store in
    let new = c.remove_with_grants.new.self.store in
    let chip = g.B.Eeprom.chip c.args.bench.now in
    let u = c.in_ok-user.user.value in
    let slot = c.in_ok-user.user.slot in
    let stands = c.requires.open.stand.over.stands in
    let gone = c.in_ok-remove_with_grants.ensures.sweeps in
    let still : g.B.Eeprom.chip c.remove_with_grants.new.bench ≡ chip = search rules in
    let found = sym gone.frame.same ∙ still in
    let left = rw (gone.frame.same, found) at gone.removed in
    let committed = rw (gone.frame.same, found) at gone.committed in
    Ended-in_memory c.requires.open.stand still (search rules) c.in_ok-remove_with_grants.ensures.index_same (λ db held any.
    let is = c.in_ok-user.ensures.asks.answers db held in (
      removing_user db u,
      is,
      Makes-user_deleted db c.args.actor c.args.name u slot old new chip held is c.in_ok-user.ensures.at left gone.cells gone.rows committed (rw found at gone.entries) (rw found at gone.only),
    ))
    (record { begun = gone.begun; cells = gone.cells; rows = gone.rows; told = refl; over = rw (gone.frame.same, found) at gone.over })
    (KeepsRows-user_deleted u slot old new chip stands c.in_ok-user.ensures.at left) committed

pub returns-clause-gone : goal.returns-clause-gone
returns-clause-gone g c = λ db held. ap (option_map (λ user. user.stamp)) (c.in_ok-user.ensures.named db held)
