use Rattle.std.proofs.Common.{arith}
use Rattle.cell_store.proofs.FreeRuns.{longest-more, longest-all}
use Rattle.cell_store.proofs.marks.longest_run.Goals.{then-count-best, else-count-best}
use Rattle.cell_store.proofs.marks.longest_run.Goals as goal

pub loop-cell-preserved : goal.loop-cell-preserved
loop-cell-preserved c =
    let inv = c.loop-cell.invariant in
    let here = c.count_free_from-count.ensures.longest (omega (arith, c.count_free_from-count.ensures.most)) in
    elim c.if-count-best.branch [
      | then-count-best w ↦ rw (w.best-is) (record {
        free = c.count_free_from-count.ensures.free;
        below = omega (arith, c.count_free_from-count.ensures.most);
        longest = longest-more c.args.marks.now c.args.from c.loop-cell.cell c.loop-cell.best.count c.count_free_from-count.result c.count_free_from-count.result (omega arith) (omega arith) inv.longest c.count_free_from-count.ensures.free here;
      })
      | else-count-best w ↦ rw (w.best-is) (record {
        free = inv.free;
        below = inv.below;
        longest = longest-more c.args.marks.now c.args.from c.loop-cell.cell c.loop-cell.best.count c.count_free_from-count.result c.loop-cell.best.count (omega arith) (omega arith) inv.longest c.count_free_from-count.ensures.free here;
      })
    ]

pub returns-clause-longest : goal.returns-clause-longest
returns-clause-longest c = λ _. longest-all c.args.marks.now c.args.from c.loop-cell.cell c.loop-cell.best.count (omega arith) c.loop-cell.invariant.longest
