use Rattle.std.proofs.Common.{[], length, codes, sym, ap, arith}
use Rattle.script.specs.Grammar as grammar
use Rattle.script.specs.Grammar.{names}
use Rattle.script.proofs.Listing.{listed-fault, begins, goes_on, fails, ends, is_full}
use Rattle.script.proofs.tokens.Tokens.names.Goals as goal
use Rattle.script.proofs.tokens.Tokens.names.Goals.{then-loop-self-test+else-takes, else-loop-self-test}

pub returns-in_err-names : goal.returns-in_err-names
unfolding names
returns-in_err-names c =
    rw c.from_residual.ensures (listed-fault 15 (codes ",") grammar.with_name [] c.args.self.now c.with_name.new.self (rw c.new.ensures at c.in_err-names.ensures.value))

pub loop-self-init : goal.loop-self-init
unfolding names
loop-self-init c = begins 15 [] c.args.self.now (rw c.new.ensures at c.in_ok-names.ensures.value) (omega (arith, c.in_ok-names.ensures.grown, ap length c.new.ensures))

pub returns-in_err-names-2 : goal.returns-in_err-names-2
returns-in_err-names-2 c =
    rw c.from_residual-in_err-names-2.ensures (fails c.loop-self.invariant (omega (arith, c.len.ensures.count, c.loop-self-test.true))
    (sym c.if-takes.ensures.value) (rw c.if-takes.ensures.rest at c.in_err-names-2.ensures.value))

pub loop-self-preserved : goal.loop-self-preserved
loop-self-preserved c =
    goes_on c.loop-self.invariant (omega (arith, c.len.ensures.count, c.loop-self-test.true)) (sym c.if-takes.ensures.value)
    (rw c.if-takes.ensures.rest at c.in_ok-names-2.ensures.value) (omega (arith, c.in_ok-names-2.ensures.grown))

pub returns : goal.returns
returns c =
    elim c.loop-self-test.branch [
      | then-loop-self-test+else-takes w ↦ rw (w.self-is, w.if-takes.ensures.rest) (ends c.loop-self.invariant (sym w.if-takes.ensures.value))
      | else-loop-self-test w ↦ rw w.self-is (is_full c.loop-self.invariant (omega (arith, c.len.ensures.count, w.loop-self-test.false)))
    ]
