use Rattle.std.proofs.Common.{sym, ◌∙◌, subst}
use Rattle.scql_base.specs.Lists.{AreChanges}
use Rattle.scql_base.proofs.PackedRuns.{AreChanges-rest, changes-longer, first-change, no-change, no-half}
use Rattle.scql_base.proofs.packed_changes.ChangeRun.first.Goals as goal

pub returns-in_err-column-clause-none : goal.returns-in_err-column-clause-none
returns-in_err-column-clause-none c =
    rw c.from_residual.ensures (sym c.self.view_is ∙ no-change c.self.inside.octets.now _ c.self.invariant.1 c.in_err-column.ensures.none)

pub returns-in_err-value-clause-none : goal.returns-in_err-value-clause-none
returns-in_err-value-clause-none c =
    absurd (no-half c.self.inside.octets.now c.in_ok-column.column.now c.in_ok-column.rest.now _ c.self.invariant.1 c.in_ok-column.ensures.some c.in_err-value.ensures.none)

pub invariant_of-result : goal.invariant_of-result
invariant_of-result c =
    let first = first-change c.self.inside.octets.now c.in_ok-column.column.now c.in_ok-value.value.now c.in_ok-column.rest.now c.in_ok-value.octets.now _ c.self.invariant.1
    c.in_ok-column.ensures.some c.in_ok-value.ensures.some in
    rw (changes-longer c.in_ok-value.octets.now first.more first.octets)
    (AreChanges-rest (c.in_ok-column.column.now, c.in_ok-value.value.now) first.more (subst AreChanges first.is c.self.invariant.0), first.octets)

pub returns-clause-some : goal.returns-clause-some
returns-clause-some c =
    let first = first-change c.self.inside.octets.now c.in_ok-column.column.now c.in_ok-value.value.now c.in_ok-column.rest.now c.in_ok-value.octets.now _ c.self.invariant.1
    c.in_ok-column.ensures.some c.in_ok-value.ensures.some in
    rw (changes-longer c.in_ok-value.octets.now first.more first.octets) (sym c.self.view_is ∙ first.is)
