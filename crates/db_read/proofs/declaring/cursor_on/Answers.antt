-- The cursor is on the object that was found; a name that isn't a column's refuses it.
use Rattle.std.proofs.Common.{sym, refl, ◌∙◌}
use Rattle.scql_base.specs.Words.{not_found}
use Rattle.scql_model.specs.Rights.{seen_named}
use Rattle.db_read.specs.Answered.{Stops, selectable}
use Rattle.db_read.proofs.Declared.{declares, declares-unnamed, on_object}
use Rattle.db_read.proofs.Sighted.{asked}
use Rattle.db_read.proofs.Searching.{where-refused}
use Rattle.db_read.proofs.Stopping.{stops-asked, stops-on, stops-refused, where-on}
use Rattle.db_read.proofs.declaring.cursor_on.Goals as goal

pub returns-in_err-object-clause-refused : goal.returns-in_err-object-clause-refused
returns-in_err-object-clause-refused g c = λ db held before.
    let seen = seen_named db c.args.actor c.args.object in
    stops-on (Stops (selectable db c.args.actor seen)) (Stops (asked db c.args.actor seen (on_object c.args.columns.now c.args.conditions.now))) c.find_named.result c.from_residual.result c.in_err-object.field-0.0
    (stops-asked db c.args.actor seen (on_object c.args.columns.now c.args.conditions.now)) c.in_err-object.was c.from_residual.ensures.1 (c.find_named.ensures.refused db held)

pub returns-then-not-are_named-clause-refused : goal.returns-then-not-are_named-clause-refused
returns-then-not-are_named-clause-refused g c = λ db held before.
    let o = c.in_ok-object.object.now in
    let is = c.in_ok-object.ensures.found db held in
    let all = c.columns_of-all.ensures in
    stops-refused _ c.refused.result not_found c.refused.ensures
    (declares-unnamed db c.args.actor before c.args.object c.args.columns.now c.args.conditions.now o c.columns_of-all.result held.valid is all (sym c.if-not-are_named.true ∙ c.are_named.ensures)) refl

pub returns-clause-declared : goal.returns-clause-declared
returns-clause-declared g c = λ db held before.
    let o = c.in_ok-object.object.now in
    let is = c.in_ok-object.ensures.found db held in
    let all = c.columns_of-all.ensures in
    declares db c.args.actor before c.args.object c.args.columns.now c.args.conditions.now o c.columns_of-all.result c.wanted.result c.copy.result held.valid is all (sym c.if-not-are_named.false ∙ c.are_named.ensures) c.wanted.ensures c.copy.ensures

pub returns-in_err-object-clause-octets_read : goal.returns-in_err-object-clause-octets_read
returns-in_err-object-clause-octets_read g c = λ db held.
    where-on _ _ c.find_named.result c.from_residual.result c.in_err-object.field-0.0 c.in_err-object.was c.from_residual.ensures.1 (λ read. read) (c.find_named.ensures.octets_read db held)

pub returns-then-not-are_named-clause-octets_read : goal.returns-then-not-are_named-clause-octets_read
returns-then-not-are_named-clause-octets_read g c = λ db held. where-refused not_found _ c.refused.result c.refused.ensures (c.in_ok-object.ensures.octets_read db held)

pub returns-clause-octets_read : goal.returns-clause-octets_read
returns-clause-octets_read g c = λ db held. c.in_ok-object.ensures.octets_read db held
