use Rattle.std.proofs.Common.{[], length, codes, sym, ap, arith}
use Rattle.script.specs.Grammar as grammar
use Rattle.script.specs.Grammar.{conditions}
use Rattle.script.proofs.Listing.{listed-fault, begins, goes_on, fails, ends, is_full}
use Rattle.script.proofs.tokens.Tokens.conditions.Goals as goal

pub returns-in_err-with_condition : goal.returns-in_err-with_condition
unfolding conditions
returns-in_err-with_condition c =
    rw c.from_residual.ensures (listed-fault 8 (codes "AND") grammar.with_condition [] c.args.self.now c.with_condition.new.self (rw c.requires at c.in_err-with_condition.ensures.value))

pub loop-self-init : goal.loop-self-init
unfolding conditions
loop-self-init c = begins 8 [] c.args.self.now (rw c.requires at c.in_ok-with_condition.ensures.value) (omega (arith, c.in_ok-with_condition.ensures.grown, ap length c.requires))

pub returns-in_err-with_condition-2 : goal.returns-in_err-with_condition-2
returns-in_err-with_condition-2 c =
    rw c.from_residual-in_err-with_condition-2.ensures (fails c.loop-self.invariant (omega (arith, c.len.ensures.count, c.loop-self-test.true))
    (sym c.if-takes.ensures.value) (rw c.if-takes.ensures.rest at c.in_err-with_condition-2.ensures.value))

pub loop-self-preserved : goal.loop-self-preserved
loop-self-preserved c =
    goes_on c.loop-self.invariant (omega (arith, c.len.ensures.count, c.loop-self-test.true)) (sym c.if-takes.ensures.value)
    (rw c.if-takes.ensures.rest at c.in_ok-with_condition-2.ensures.value) (omega (arith, c.in_ok-with_condition-2.ensures.grown))

pub returns-else-takes : goal.returns-else-takes
returns-else-takes c = rw c.if-takes.ensures.rest (ends c.loop-self.invariant (sym c.if-takes.ensures.value))

pub returns-after-loop-self : goal.returns-after-loop-self
returns-after-loop-self c = is_full c.loop-self.invariant (omega (arith, c.len.ensures.count, c.loop-self-test.false))
