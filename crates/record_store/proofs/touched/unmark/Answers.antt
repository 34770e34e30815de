use Rattle.std.proofs.Common.{get_or, ◌∙◌, arith}
use Rattle.cell_store.proofs.Marking.{marked-inside}
use Rattle.record_store.proofs.Touching.{among-at, unmark-end}
use Rattle.record_store.proofs.touched.unmark.Goals as goal

pub returns-clause-none : goal.returns-clause-none
returns-clause-none c = unmark-end c.args.slots.now c.loop-slot.marks.items c.loop-slot.slot-index (omega arith) c.loop-slot.invariant.left

pub index_mut-requires : goal.index_mut-requires
index_mut-requires c =
    let slot = get_or c.args.slots.now c.loop-slot.slot-index 0 in
    let there = marked-inside c.args.marks.now.items slot (c.requires.marked slot ∙ among-at c.args.slots.now c.loop-slot.slot-index c.loop-slot-test.true) in
    omega (arith, there, c.loop-slot.invariant.count, c.loop-slot.marks.ok.0)
