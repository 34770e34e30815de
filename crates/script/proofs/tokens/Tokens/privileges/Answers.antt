use Rattle.std.proofs.Common.{codes, sym, arith}
use Rattle.script.specs.Grammar as grammar
use Rattle.script.specs.Grammar.{privileges}
use Rattle.script.proofs.Listing.{listed-fault, begins, goes_on, fails, ends, is_full}
use Rattle.script.proofs.tokens.Tokens.privileges.Goals as goal
use Rattle.script.proofs.tokens.Tokens.privileges.Goals.{then-loop-count-test+else-takes, else-loop-count-test}

pub returns-in_err-bits : goal.returns-in_err-bits
unfolding privileges
returns-in_err-bits c =
    rw c.from_residual.ensures (listed-fault 500 (codes ",") grammar.with_privilege 0 c.args.self.now c.with_privilege.new.self c.in_err-bits.ensures.value)

pub loop-count-init : goal.loop-count-init
unfolding privileges
loop-count-init c = record {
  whole = begins 500 0 c.args.self.now c.in_ok-bits.ensures.value (omega arith);
  some = c.in_ok-bits.ensures.some.0;
  within = c.in_ok-bits.ensures.some.1;
}

pub returns-in_err-bits-2 : goal.returns-in_err-bits-2
returns-in_err-bits-2 c =
    rw c.from_residual-in_err-bits-2.ensures (fails c.loop-count.invariant.whole (omega (arith, c.loop-count-test.true))
    (sym c.if-takes.ensures.value) (rw c.if-takes.ensures.rest at c.in_err-bits-2.ensures.value))

pub loop-count-preserved : goal.loop-count-preserved
loop-count-preserved c = record {
  whole = goes_on c.loop-count.invariant.whole (omega (arith, c.loop-count-test.true)) (sym c.if-takes.ensures.value)
      (rw c.if-takes.ensures.rest at c.in_ok-bits-2.ensures.value) (omega arith);
  some = c.in_ok-bits-2.ensures.some.0;
  within = c.in_ok-bits-2.ensures.some.1;
}

pub returns : goal.returns
returns c =
    elim c.loop-count-test.branch [
      | then-loop-count-test+else-takes w ↦ rw (w.self-is, w.if-takes.ensures.rest) (ends c.loop-count.invariant.whole (sym w.if-takes.ensures.value))
      | else-loop-count-test w ↦ rw w.self-is (is_full c.loop-count.invariant.whole (omega (arith, w.loop-count-test.false)))
    ]
