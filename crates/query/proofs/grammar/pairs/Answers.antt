use Rattle.std.proofs.Common.{[], length, codes, sym, ap, arith}
use Rattle.script.proofs.Listing.{listed-fault, begins, goes_on, fails, ends, is_full}
use Rattle.query.specs.Grammar as grammar
use Rattle.query.specs.Grammar.{pairs}
use Rattle.query.proofs.grammar.pairs.Goals as goal
use Rattle.query.proofs.grammar.pairs.Goals.{then-loop-tokens-test+else-takes, else-loop-tokens-test}

pub returns-in_err-pairs : goal.returns-in_err-pairs
unfolding pairs
returns-in_err-pairs c =
    rw c.from_residual.ensures (listed-fault 8 (codes "AND") grammar.with_pair [] c.args.tokens.now c.with_pair.new.tokens (rw c.new_in.ensures at c.in_err-pairs.ensures.value))

pub loop-tokens-init : goal.loop-tokens-init
unfolding pairs
loop-tokens-init c = begins 8 [] c.args.tokens.now (rw c.new_in.ensures at c.in_ok-pairs.ensures.value) (omega (arith, c.in_ok-pairs.ensures.grown, ap length c.new_in.ensures))

pub returns-in_err-pairs-2 : goal.returns-in_err-pairs-2
returns-in_err-pairs-2 c =
    rw c.from_residual-in_err-pairs-2.ensures (fails c.loop-tokens.invariant (omega (arith, c.len.ensures.value, c.loop-tokens-test.true))
    (sym c.if-takes.ensures.value) (rw c.if-takes.ensures.rest at c.in_err-pairs-2.ensures.value))

pub loop-tokens-preserved : goal.loop-tokens-preserved
loop-tokens-preserved c =
    goes_on c.loop-tokens.invariant (omega (arith, c.len.ensures.value, c.loop-tokens-test.true)) (sym c.if-takes.ensures.value)
    (rw c.if-takes.ensures.rest at c.in_ok-pairs-2.ensures.value) (omega (arith, c.in_ok-pairs-2.ensures.grown))

pub returns : goal.returns
returns c =
    elim c.loop-tokens-test.branch [
      | then-loop-tokens-test+else-takes w ↦ rw (w.tokens-is, w.if-takes.ensures.rest) (ends c.loop-tokens.invariant (sym w.if-takes.ensures.value))
      | else-loop-tokens-test w ↦ rw w.tokens-is (is_full c.loop-tokens.invariant (omega (arith, c.len.ensures.value, w.loop-tokens-test.false)))
    ]
