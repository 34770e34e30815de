use Rattle.std.proofs.Common.{◌≡◌, ◌<◌, false, true, length, sym, ◌∙◌, arith}
use Rattle.std.proofs.lemmas.List.{length-set}
use Rattle.cell_store.specs.Marks.{is_marked}
use Rattle.cell_store.proofs.Freeing.{Freeing-end, Freeing-more}
use Rattle.cell_store.proofs.Marking.{marked-inside}
use Rattle.cell_store.proofs.marks.unmark_chain.Goals as goal

pub returns-then-not-is_marked-clause-unmarked : goal.returns-then-not-is_marked-clause-unmarked
returns-then-not-is_marked-clause-unmarked c =
    let free : is_marked c.loop-step.marks c.loop-step.cell ≡ false = sym c.is_marked.ensures ∙ c.if-not-is_marked.true in
    Freeing-end c.args.links.now c.args.marks.now c.loop-step.marks c.args.first c.loop-step._step c.loop-step.cell free c.loop-step.invariant.freeing

pub loop-step-preserved : goal.loop-step-preserved
loop-step-preserved c =
    let inv = c.loop-step.invariant in
    let marked : is_marked c.loop-step.marks c.loop-step.cell ≡ true = sym c.is_marked.ensures ∙ c.if-not-is_marked.false in
    let inside : c.loop-step.cell < length c.args.links.now = omega (arith, marked-inside c.loop-step.marks c.loop-step.cell marked, inv.count, c.requires.links) in
    rw c.unmark.ensures (record {
      freeing = Freeing-more c.args.links.now c.args.marks.now c.loop-step.marks c.args.first c.loop-step._step c.loop-step.cell (omega (arith, c.requires.links, c.requires.few)) inside inv.freeing;
      count = length-set c.loop-step.marks c.loop-step.cell false ∙ inv.count;
    })
