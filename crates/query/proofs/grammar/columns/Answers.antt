use Rattle.std.proofs.Common.{[], length, codes, sym, ap, arith}
use Rattle.script.proofs.Listing.{listed-fault, begins, goes_on, fails, ends, is_full}
use Rattle.query.specs.Grammar as grammar
use Rattle.query.specs.Grammar.{columns}
use Rattle.query.proofs.grammar.columns.Goals as goal
use Rattle.query.proofs.grammar.columns.Goals.{then-loop-tokens-test+else-takes, else-loop-tokens-test}

pub returns-in_err-columns : goal.returns-in_err-columns
unfolding columns
returns-in_err-columns c =
    rw c.from_residual.ensures (listed-fault 15 (codes ",") grammar.with_named [] c.args.tokens.now c.with_named.new.tokens (rw c.new_in.ensures at c.in_err-columns.ensures.value))

pub loop-tokens-init : goal.loop-tokens-init
unfolding columns
loop-tokens-init c = begins 15 [] c.args.tokens.now (rw c.new_in.ensures at c.in_ok-columns.ensures.value) (omega (arith, c.in_ok-columns.ensures.grown, ap length c.new_in.ensures))

pub returns-in_err-columns-2 : goal.returns-in_err-columns-2
returns-in_err-columns-2 c =
    rw c.from_residual-in_err-columns-2.ensures (fails c.loop-tokens.invariant (omega (arith, c.len.ensures.value, c.loop-tokens-test.true))
    (sym c.if-takes.ensures.value) (rw c.if-takes.ensures.rest at c.in_err-columns-2.ensures.value))

pub loop-tokens-preserved : goal.loop-tokens-preserved
loop-tokens-preserved c =
    goes_on c.loop-tokens.invariant (omega (arith, c.len.ensures.value, c.loop-tokens-test.true)) (sym c.if-takes.ensures.value)
    (rw c.if-takes.ensures.rest at c.in_ok-columns-2.ensures.value) (omega (arith, c.in_ok-columns-2.ensures.grown))

pub returns : goal.returns
returns c =
    elim c.loop-tokens-test.branch [
      | then-loop-tokens-test+else-takes w ↦ rw (w.tokens-is, w.if-takes.ensures.rest) (ends c.loop-tokens.invariant (sym w.if-takes.ensures.value))
      | else-loop-tokens-test w ↦ rw w.tokens-is (is_full c.loop-tokens.invariant (omega (arith, c.len.ensures.value, w.loop-tokens-test.false)))
    ]
