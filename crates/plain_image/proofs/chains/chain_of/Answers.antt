-- From cell to cell.
use Rattle.std.proofs.Common.{◌∙◌, ◌*◌, ◌-◌, suc, sym, arith}
use Rattle.plain_image.proofs.Walking.{chain-ends, chain-exceeds, chain-goes, chain-leaves}
use Rattle.plain_image.proofs.chains.chain_of.Goals.{then-cell-2, else-cell-2}
use Rattle.plain_image.proofs.chains.chain_of.Goals as goal

pub returns-then-cell : goal.returns-then-cell
returns-then-cell c =
    let most = 2 * c.args.cells - c.loop.counter in
    sym (c.loop.invariant.left most (omega (arith, c.loop-test.true, c.from-end.ensures, c.number-number.ensures.number)) ∙ chain-ends c.args.octets.now c.args.cells most c.loop.cell c.loop.chain.items c.if-cell.true)

pub returns-then-cell-number : goal.returns-then-cell-number
returns-then-cell-number c =
    let most = 2 * c.args.cells - suc c.loop.counter in
    sym (c.loop.invariant.left (suc most) (omega (arith, c.loop-test.true, c.from-end.ensures, c.number-number.ensures.number)) ∙ chain-leaves c.args.octets.now c.args.cells most c.loop.cell c.loop.chain.items c.if-cell.false (omega (arith, c.if-cell-number.true, c.number-number.ensures.number)))

pub loop-preserved : goal.loop-preserved
loop-preserved c = record {
  left = λ most count. (rw (c.in_ok-push.ensures.items, c.number_at-cell.ensures, c.cell_place.ensures, c.number-number.ensures.number)
      (c.loop.invariant.left (suc most) (omega arith) ∙ chain-goes c.args.octets.now c.args.cells most c.loop.cell c.loop.chain.items c.if-cell.false (omega (arith, c.if-cell-number.false, c.number-number.ensures.number))));
}

pub returns : goal.returns
returns c =
    let all = c.loop.invariant.left 0 (omega (arith, c.loop-test.false, c.loop.auto.counter-end, c.from-end.ensures, c.number-number.ensures.number)) in
    elim c.if-cell-2.branch [
      | then-cell-2 w ↦ rw w.result-is (sym (all ∙ chain-ends c.args.octets.now c.args.cells 0 c.loop.cell c.loop.chain.items w.if-cell-2.true))
      | else-cell-2 w ↦ rw w.result-is (sym (all ∙ chain-exceeds c.args.octets.now c.args.cells c.loop.cell c.loop.chain.items w.if-cell-2.false))
    ]
