-- The one object of the name is seen if it appears.
use Rattle.std.proofs.Common.{◌≡◌, Option, subst, Ok}
use Rattle.std.specs.Prelude.{IfOk, IfErr}
use Rattle.scql_base.specs.declared.records.Object.{Object}
use Rattle.object_table.specs.Named.{object_named}
use Rattle.record_table.proofs.Asking.{same-held}
use Rattle.privilege_table.proofs.Seen.{named-held, seen-held}
use Rattle.views.proofs.Below.{ReadsAtMost}
use Rattle.db_read.specs.Answered.{Stops, WhereRead, selectable}
use Rattle.db_read.specs.Searched.{objects_alike, rights_cells}
use Rattle.db_read.proofs.Searching.{named-read, reads-then}
use Rattle.db_read.proofs.Stopping.{where-more}
use Rattle.db_read.proofs.finding.find_named.Goals as goal

pub returns-clause-found : goal.returns-clause-found
returns-clause-found g c = λ db held.
    subst (λ seen. IfOk c.select.result (λ object. selectable db c.args.actor seen ≡ Ok object.now))
    (seen-held c.args.reader.now.store.now c.args.reader.now.side (g.B.Eeprom.chip c.args.reader.now.bench.now) db c.args.actor c.args.name c.find_name_into.new.place held c.in_ok-find_name_into.ensures.found)
    (c.select.ensures.found db (same-held c.in_ok-find_name_into.ensures.goes_on c.in_ok-find_name_into.ensures.frame.same held))

pub returns-clause-refused : goal.returns-clause-refused
returns-clause-refused g c = λ db held.
    subst (λ seen. IfErr c.select.result (Stops (selectable db c.args.actor seen)))
    (seen-held c.args.reader.now.store.now c.args.reader.now.side (g.B.Eeprom.chip c.args.reader.now.bench.now) db c.args.actor c.args.name c.find_name_into.new.place held c.in_ok-find_name_into.ensures.found)
    (c.select.ensures.refused db (same-held c.in_ok-find_name_into.ensures.goes_on c.in_ok-find_name_into.ensures.frame.same held))

pub returns-clause-octets_read : goal.returns-clause-octets_read
returns-clause-octets_read g c = λ db held.
    let reader = c.args.reader.now in
    let chip = g.B.Eeprom.chip reader.bench.now in
    let named = named-held reader.store.now reader.side chip db c.args.name c.find_name_into.new.place held c.in_ok-find_name_into.ensures.found in
    where-more _ _ c.select.result
    (reads-then (objects_alike db.objects c.args.name) (rights_cells db c.args.actor (object_named db.objects c.args.name)) _ _ _ (named-read reader.store.now reader.side chip db held c.args.name _ _ c.in_ok-find_name_into.ensures.octets_read))
    (subst (λ (o : Option Object). WhereRead c.select.result (ReadsAtMost (rights_cells db c.args.actor o) (g.B.Eeprom.octets_read c.find_name_into.new.reader.bench.now) (g.B.Eeprom.octets_read c.select.new.reader.bench.now))) named
    (c.select.ensures.octets_read db (same-held c.in_ok-find_name_into.ensures.goes_on c.in_ok-find_name_into.ensures.frame.same held)))
