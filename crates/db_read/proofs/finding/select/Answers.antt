-- What is found is answered by what the actor may do with it.
use Rattle.std.proofs.Common.{sym, refl, ◌∙◌}
use Rattle.scql_base.specs.Words.{not_found, security_not_satisfied}
use Rattle.privilege_table.specs.declared.rights.Privilege.TheVariants.{Select}
use Rattle.db_read.proofs.Adding.{nothing-read}
use Rattle.db_read.proofs.Searching.{rights-read, where-refused}
use Rattle.db_read.proofs.Sighted.{selects-closed, selects-hidden, selects-open}
use Rattle.db_read.proofs.Stopping.{stops-refused}
use Rattle.db_read.proofs.finding.select.Goals as goal

pub returns-in_default-clause-refused : goal.returns-in_default-clause-refused
returns-in_default-clause-refused g c = λ db held. rw c.in_default.is (stops-refused _ c.refused.result not_found c.refused.ensures refl refl)

pub returns-then-not-see-clause-refused : goal.returns-then-not-see-clause-refused
returns-then-not-see-clause-refused g c = λ db held.
    let rights = c.in_ok-rights.ensures.rights db held in
    rw c.in-Some.is (stops-refused _ c.refused-then-not-see.result not_found c.refused-then-not-see.ensures (selects-hidden db c.args.actor c.in-Some.object (rights.appears ∙ (sym c.see.ensures ∙ c.if-not-see.true))) refl)

pub returns-then-not-have-clause-refused : goal.returns-then-not-have-clause-refused
returns-then-not-have-clause-refused g c = λ db held.
    let rights = c.in_ok-rights.ensures.rights db held in
    rw c.in-Some.is (stops-refused _ c.refused-then-not-have.result security_not_satisfied c.refused-then-not-have.ensures
    (selects-closed db c.args.actor c.in-Some.object (rights.appears ∙ (sym c.see.ensures ∙ c.if-not-see.false)) (rights.holds Select ∙ (sym c.have.ensures ∙ c.if-not-have.true))) refl)

pub returns-clause-found : goal.returns-clause-found
returns-clause-found g c = λ db held.
    let rights = c.in_ok-rights.ensures.rights db held in
    rw c.in-Some.is (selects-open db c.args.actor c.in-Some.object (rights.appears ∙ (sym c.see.ensures ∙ c.if-not-see.false)) (rights.holds Select ∙ (sym c.have.ensures ∙ c.if-not-have.false)))

pub returns-in_default-clause-octets_read : goal.returns-in_default-clause-octets_read
returns-in_default-clause-octets_read g c = λ db held. rw c.in_default.is (where-refused not_found _ c.refused.result c.refused.ensures (nothing-read _ _))

pub returns-then-not-see-clause-octets_read : goal.returns-then-not-see-clause-octets_read
returns-then-not-see-clause-octets_read g c = λ db held.
    let reader = c.args.reader.now in
    rw c.in-Some.is (where-refused not_found _ c.refused-then-not-see.result c.refused-then-not-see.ensures
    (rights-read reader.store.now reader.side (g.B.Eeprom.chip reader.bench.now) db held c.args.actor c.in-Some.object _ _ c.in_ok-rights.ensures.reads.octets_read))

pub returns-then-not-have-clause-octets_read : goal.returns-then-not-have-clause-octets_read
returns-then-not-have-clause-octets_read g c = λ db held.
    let reader = c.args.reader.now in
    rw c.in-Some.is (where-refused security_not_satisfied _ c.refused-then-not-have.result c.refused-then-not-have.ensures
    (rights-read reader.store.now reader.side (g.B.Eeprom.chip reader.bench.now) db held c.args.actor c.in-Some.object _ _ c.in_ok-rights.ensures.reads.octets_read))

pub returns-clause-octets_read : goal.returns-clause-octets_read
returns-clause-octets_read g c = λ db held.
    let reader = c.args.reader.now in
    rw c.in-Some.is (rights-read reader.store.now reader.side (g.B.Eeprom.chip reader.bench.now) db held c.args.actor c.in-Some.object _ _ c.in_ok-rights.ensures.reads.octets_read)
