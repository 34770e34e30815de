-- The one object of the stamp is seen if it appears.
use Rattle.std.proofs.Common.{◌≡◌, ℕ, Option, Ok, sym, subst}
use Rattle.std.specs.Prelude.{IfErr, IfSome}
use Rattle.eeprom.specs.StoreOf.{Slots}
use Rattle.record_table.specs.Listed.{slots_of}
use Rattle.record_table.specs.Reading.{NeverFalls}
use Rattle.record_table.proofs.Asking.{same-held, same-slots}
use Rattle.record_table.proofs.ReadingCosts.{falls-both}
use Rattle.scql_base.specs.declared.records.Object.{Object}
use Rattle.scql_model.specs.Rights.{seen_stamped}
use Rattle.scql_model.specs.Database.{Database, object_stamped}
use Rattle.record_table.specs.Making.{IsHeld}
use Rattle.views.specs.Below.{object_cells}
use Rattle.views.proofs.Below.{ReadsAtMost, object-read}
use Rattle.views.proofs.Stamped.{stamped-held}
use Rattle.db_read.specs.Answered.{Stops, WhereRead, selectable}
use Rattle.db_read.specs.Searched.{cells_selected, rights_cells}
use Rattle.db_read.proofs.Searching.{reads-then}
use Rattle.db_read.proofs.Sighted.{seen-stamped-held}
use Rattle.record_table.specs.declared.stop.Stop.{Stop}
use Rattle.db_read.proofs.Stopping.{stops-on, where-more, where-on}
use Rattle.db_read.proofs.finding.find_selected.Goals.{After-select}
use Rattle.db_read.proofs.finding.find_selected.Goals as goal

pub returns-clause-found : goal.returns-clause-found
returns-clause-found g c = λ db held.
    let selects = subst (λ seen. selectable db c.args.actor seen ≡ Ok c.in_ok-select.field-0.now)
    (seen-stamped-held c.args.reader.now.store.now c.args.reader.now.side (g.B.Eeprom.chip c.args.reader.now.bench.now) db c.args.actor c.args.stamp c.find_stamp_into.new.place held c.in_ok-find_stamp_into.ensures.found)
    (c.in_ok-select.ensures.found db (same-held c.in_ok-find_stamp_into.ensures.goes_on c.in_ok-find_stamp_into.ensures.frame.same held)) in
    subst (λ (o : Option Object). IfSome o (λ (x : Object). selectable db c.args.actor (seen_stamped db c.args.actor c.args.stamp) ≡ Ok x)) (sym c.in_ok-select.ensures.there) selects

pub returns-in_err-select-clause-refused : goal.returns-in_err-select-clause-refused
returns-in_err-select-clause-refused g c = λ db held.
    let P : Stop → Type 0 = λ stop. Stops (selectable db c.args.actor (seen_stamped db c.args.actor c.args.stamp)) stop in
    stops-on P P c.select.result c.from_residual-in_err-select.result c.in_err-select.field-0.0 (λ stop stops. stops) c.in_err-select.was c.from_residual-in_err-select.ensures.1
    (subst (λ seen. IfErr c.select.result (Stops (selectable db c.args.actor seen)))
    (seen-stamped-held c.args.reader.now.store.now c.args.reader.now.side (g.B.Eeprom.chip c.args.reader.now.bench.now) db c.args.actor c.args.stamp c.find_stamp_into.new.place held c.in_ok-find_stamp_into.ensures.found)
    (c.select.ensures.refused db (same-held c.in_ok-find_stamp_into.ensures.goes_on c.in_ok-find_stamp_into.ensures.frame.same held)))

pub returns-in_err-select-clause-rises : goal.returns-in_err-select-clause-rises
returns-in_err-select-clause-rises g c =
    let slots : Option Slots = slots_of c.args.reader.now.store.now c.args.reader.now.side (g.B.Eeprom.chip c.args.reader.now.bench.now) in
    let a : Option ℕ = g.B.Eeprom.octets_read c.args.reader.now.bench.now in
    let b : Option ℕ = g.B.Eeprom.octets_read c.find_stamp_into.new.reader.bench.now in
    let after : Option ℕ = g.B.Eeprom.octets_read c.select.new.reader.bench.now in
    where-on (NeverFalls slots b after) (NeverFalls slots a after) c.select.result c.from_residual-in_err-select.result c.in_err-select.field-0.0 c.in_err-select.was c.from_residual-in_err-select.ensures.1
    (falls-both slots a b after c.in_ok-find_stamp_into.ensures.rises) (rw (same-slots c.in_ok-find_stamp_into.ensures.goes_on c.in_ok-find_stamp_into.ensures.frame.same) at c.select.ensures.rises)

-- what was read of the object, and of the grants on it
read : (g : _) (c : After-select g) (db : Database) → IsHeld c.args.reader.now.store.now c.args.reader.now.side (g.B.Eeprom.chip c.args.reader.now.bench.now) db
    → WhereRead c.select.result (ReadsAtMost (cells_selected db c.args.actor c.args.stamp) (g.B.Eeprom.octets_read c.args.reader.now.bench.now) (g.B.Eeprom.octets_read c.select.new.reader.bench.now))
read g c db held =
    let reader = c.args.reader.now in
    let chip = g.B.Eeprom.chip reader.bench.now in
    let stamped = stamped-held reader.store.now reader.side chip db c.args.stamp c.find_stamp_into.new.place held c.in_ok-find_stamp_into.ensures.found in
    where-more _ _ c.select.result
    (reads-then (object_cells db.objects c.args.stamp) (rights_cells db c.args.actor (object_stamped db.objects c.args.stamp)) _ _ _ (object-read reader.store.now reader.side chip db c.args.stamp _ _ held c.in_ok-find_stamp_into.ensures.octets_read))
    (subst (λ (o : Option Object). WhereRead c.select.result (ReadsAtMost (rights_cells db c.args.actor o) (g.B.Eeprom.octets_read c.find_stamp_into.new.reader.bench.now) (g.B.Eeprom.octets_read c.select.new.reader.bench.now))) stamped
    (c.select.ensures.octets_read db (same-held c.in_ok-find_stamp_into.ensures.goes_on c.in_ok-find_stamp_into.ensures.frame.same held)))

pub returns-in_err-select-clause-octets_read : goal.returns-in_err-select-clause-octets_read
returns-in_err-select-clause-octets_read g c = λ db held.
    where-on _ _ c.select.result c.from_residual-in_err-select.result c.in_err-select.field-0.0 c.in_err-select.was c.from_residual-in_err-select.ensures.1 (λ read. read) (read g (goal.at.returns-in_err-select-clause-octets_read g c).After-select db held)

pub returns-clause-octets_read : goal.returns-clause-octets_read
returns-clause-octets_read g c = λ db held. rw c.in_ok-select.was at (read g (goal.at.returns-clause-octets_read g c).After-select db held)
