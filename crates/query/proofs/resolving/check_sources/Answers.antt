use Rattle.std.proofs.Common.{sym, ◌∙◌, arith}
use Rattle.query.proofs.InTurn.{is-new, is-repeated, all-new}
use Rattle.query.proofs.resolving.check_sources.Goals as goal

pub returns-then-has_source-clause-fault : goal.returns-then-has_source-clause-fault
returns-then-has_source-clause-fault c =
    is-repeated c.index-sources-place.result _ c.loop-place.invariant c.loop-place-test.true c.index-sources-place.is (sym c.has_source.ensures ∙ c.if-has_source.true)

pub loop-place-preserved : goal.loop-place-preserved
loop-place-preserved c =
    is-new c.index-sources-place.result _ c.loop-place.invariant c.loop-place-test.true c.index-sources-place.is (sym c.has_source.ensures ∙ c.if-has_source.false)

pub returns-clause-new : goal.returns-clause-new
returns-clause-new c = all-new c.loop-place.invariant (omega (arith, c.loop-place-test.false))
