-- The owner holds all, and nothing is read; anybody else holds what grants give.
use Rattle.std.proofs.Common.{sym, ◌∙◌, arith}
use Rattle.privilege_table.proofs.Seen.{granted-rights, held-granted, owned-rights}
use Rattle.privilege_table.proofs.rights.rights_on.Goals as goal
use Rattle.record_table.proofs.ReadingCosts.{ReadsSide-none, ReadsSide-told}

pub returns-then-is_owned_by-clause-rights : goal.returns-then-is_owned_by-clause-rights
returns-then-is_owned_by-clause-rights g c = λ db held. owned-rights db c.args.actor c.args.object.now (sym c.is_owned_by.ensures ∙ c.if-is_owned_by.true)

pub returns-clause-rights : goal.returns-clause-rights
returns-clause-rights g c = λ db held.
    let given = held-granted c.args.reader.now.store.now c.args.reader.now.side (g.B.Eeprom.chip c.args.reader.now.bench.now) db c.args.object.now.stamp _ c.in_ok-bits.bits held c.in_ok-bits.ensures.held in
    granted-rights db c.args.actor c.args.object.now c.in_ok-bits.bits (sym c.is_owned_by.ensures ∙ c.if-is_owned_by.false) (rw c.actor_stamp.ensures at given)

pub returns-then-is_owned_by-clause-reads : goal.returns-then-is_owned_by-clause-reads
returns-then-is_owned_by-clause-reads g c = ReadsSide-none

pub returns-clause-reads : goal.returns-clause-reads
returns-clause-reads g c = ReadsSide-told (rw c.actor_stamp.ensures at c.in_ok-bits.ensures.reads) (λ slots. omega arith)
