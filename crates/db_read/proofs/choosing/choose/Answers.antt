-- What is found is right for the cursor; what refuses it refuses the rows under it.
use Rattle.std.proofs.Common.{◌≡◌, Option, Ok, refl, sym, subst, ◌∙◌}
use Rattle.std.specs.Prelude.{IfSome}
use Rattle.std.proofs.lemmas.Bool.{false≢true}
use Rattle.std.specs.Option.{option_map_or}
use Rattle.scql_base.specs.declared.records.Object.{Object}
use Rattle.scql_model.specs.Contents.{Contents}
use Rattle.scql_model.specs.Database.{Database}
use Rattle.scql_model.specs.Moves.{chosen, rows_under}
use Rattle.scql_model.specs.Rights.{seen_stamped}
use Rattle.record_table.specs.Making.{IsHeld}
use Rattle.db_read.specs.Answered.{Stops, selectable}
use Rattle.views.specs.Below.{cells_under}
use Rattle.views.proofs.Below.{ReadsAtMost}
use Rattle.db_read.specs.Scan.{IsResolved}
use Rattle.db_read.specs.Searched.{cells_selected, way_cells}
use Rattle.db_read.proofs.Adding.{object-chosen, way-chosen}
use Rattle.db_read.proofs.Chooses.{at-object, is-for, named-resolved, stamp-found}
use Rattle.db_read.proofs.Stopping.{stops-asked, stops-on, where-both, where-on}
use Rattle.db_read.proofs.choosing.choose.Goals.{After-resolve, After-place_all}
use Rattle.db_read.proofs.choosing.choose.Goals as goal

-- the object that was found is the one from which the actor may select,
selects : (g : _) (c : After-resolve g) (db : Database) → IsHeld c.args.reader.now.store.now c.args.reader.now.side (g.B.Eeprom.chip c.args.reader.now.bench.now) db
    → selectable db c.args.actor (seen_stamped db c.args.actor c.args.cursor.now.object) ≡ Ok c.in-Some.object
selects g c db held =
    subst (λ (o : Option Object). IfSome o (λ (x : Object). selectable db c.args.actor (seen_stamped db c.args.actor c.args.cursor.now.object) ≡ Ok x)) c.in-Some.is (c.in_ok-find_selected.ensures.found db held)

-- and its columns were found
resolves : (g : _) (c : After-place_all g) (db : Database) → IsHeld c.args.reader.now.store.now c.args.reader.now.side (g.B.Eeprom.chip c.args.reader.now.bench.now) db → IsResolved db.objects c.in-Some.object c.resolve.new.resolved
resolves g c db held =
    let reader = c.args.reader.now in
    let chip = g.B.Eeprom.chip reader.bench.now in
    c.in_ok-resolve.ensures.rests db (rw (c.in_ok-find_selected.ensures.reads.goes_on.store, c.in_ok-find_selected.ensures.reads.goes_on.side, c.in_ok-find_selected.ensures.reads.frame.same) held)
    (stamp-found reader.store.now reader.side chip db c.args.actor c.args.cursor.now c.in-Some.object held (selects g (goal.at.After-place_all g c).After-resolve db held))

pub returns-clause-right : goal.returns-clause-right
returns-clause-right g c = λ db held.
    let placed = c.if-not-place_all.ensures.placed refl in
    is-for db c.args.actor c.args.cursor.now c.in-Some.object c.resolve.new.resolved _ (selects g (goal.at.returns-clause-right g c).After-resolve db held) (resolves g (goal.at.returns-clause-right g c).After-place_all db held)
    refl refl refl refl placed.0 placed.1 c.place_all.ensures.few

pub returns-in_err-find_selected-clause-refused : goal.returns-in_err-find_selected-clause-refused
returns-in_err-find_selected-clause-refused g c = λ db held cursor.
    let on = c.args.cursor.now in
    let seen = seen_stamped db c.args.actor on.object in
    stops-on (Stops (selectable db c.args.actor seen)) (Stops (rows_under db c.args.actor on)) c.find_selected.result c.from_residual.result c.in_err-find_selected.field-0.0
    (stops-asked db c.args.actor seen (λ (x : Object) (contents : Contents). Ok (chosen contents on))) c.in_err-find_selected.was c.from_residual.ensures.1 (c.find_selected.ensures.refused db held)

pub returns-then-not-place_all-clause-refused : goal.returns-then-not-place_all-clause-refused
returns-then-not-place_all-clause-refused g c = λ db held cursor.
    let reader = c.args.reader.now in
    absurd (false≢true (sym c.if-not-place_all.true ∙ c.place_all.ensures.there (named-resolved reader.store.now reader.side (g.B.Eeprom.chip reader.bench.now) db c.args.actor c.args.cursor.now c.in-Some.object c.resolve.new.resolved held cursor
    (selects g (goal.at.returns-then-not-place_all-clause-refused g c).After-resolve db held) (resolves g (goal.at.returns-then-not-place_all-clause-refused g c).After-place_all db held))))

pub returns-then-not-place_all-clause-octets_read : goal.returns-then-not-place_all-clause-octets_read
returns-then-not-place_all-clause-octets_read g c = λ db held cursor.
    let reader = c.args.reader.now in
    absurd (false≢true (sym c.if-not-place_all.true ∙ c.place_all.ensures.there (named-resolved reader.store.now reader.side (g.B.Eeprom.chip reader.bench.now) db c.args.actor c.args.cursor.now c.in-Some.object c.resolve.new.resolved held cursor
    (selects g (goal.at.returns-then-not-place_all-clause-octets_read g c).After-resolve db held) (resolves g (goal.at.returns-then-not-place_all-clause-octets_read g c).After-place_all db held))))

pub returns-in_err-find_selected-clause-octets_read : goal.returns-in_err-find_selected-clause-octets_read
returns-in_err-find_selected-clause-octets_read g c = λ db held cursor.
    let reader = c.args.reader.now in
    let on = c.args.cursor.now.object in
    where-on _ _ c.find_selected.result c.from_residual.result c.in_err-find_selected.field-0.0 c.in_err-find_selected.was c.from_residual.ensures.1
    (object-chosen reader.store.now reader.side (g.B.Eeprom.chip reader.bench.now) db held (cells_selected db c.args.actor on) (way_cells db on) _ _)
    (where-both _ _ c.find_selected.result (c.find_selected.ensures.octets_read db held) c.find_selected.ensures.rises)

pub returns-clause-octets_read : goal.returns-clause-octets_read
returns-clause-octets_read g c = λ db held cursor.
    let reader = c.args.reader.now in
    let chip = g.B.Eeprom.chip reader.bench.now in
    let on = c.args.cursor.now.object in
    let there = at-object reader.store.now reader.side chip db c.args.actor c.args.cursor.now c.in-Some.object held cursor (selects g (goal.at.returns-clause-octets_read g c).After-resolve db held) in
    let way = c.in_ok-resolve.ensures.octets_read db (rw (c.in_ok-find_selected.ensures.reads.goes_on.store, c.in_ok-find_selected.ensures.reads.goes_on.side, c.in_ok-find_selected.ensures.reads.frame.same) held) in
    way-chosen reader.store.now reader.side chip db held (cells_selected db c.args.actor on) (way_cells db on) _ _ _ (c.in_ok-find_selected.ensures.octets_read db held) c.in_ok-find_selected.ensures.rises
    (subst (λ (o : Option Object). ReadsAtMost (option_map_or (λ (x : Object). cells_under db.objects x.kind) o 0) (g.B.Eeprom.octets_read c.find_selected.new.reader.bench.now) (g.B.Eeprom.octets_read c.resolve.new.reader.bench.now)) (sym there) way)
    (simp (c.in_ok-find_selected.ensures.reads.goes_on.store, c.in_ok-find_selected.ensures.reads.goes_on.side, c.in_ok-find_selected.ensures.reads.frame.same) at c.in_ok-resolve.ensures.rises)
