use Rattle.std.proofs.Common.{get_or, arith}
use Rattle.record_store.proofs.Touching.{among-at, copy-end}
use Rattle.record_store.proofs.slots.copy_slots.Goals as goal

pub returns : goal.returns
returns c = copy-end c.args.slots.now c.args.from.now c.loop-slot.to.items c.loop-slot.slot-index (omega arith) c.loop-slot.invariant.count c.loop-slot.invariant.others

pub bounds-from-slot : goal.bounds-from-slot
bounds-from-slot c = c.requires.slots.inside (get_or c.args.slots.now c.loop-slot.slot-index 0) (among-at c.args.slots.now c.loop-slot.slot-index c.loop-slot-test.true)

pub index_mut-requires : goal.index_mut-requires
index_mut-requires c =
    let there = c.requires.slots.inside (get_or c.args.slots.now c.loop-slot.slot-index 0) (among-at c.args.slots.now c.loop-slot.slot-index c.loop-slot-test.true) in
    omega (arith, there, c.loop-slot.invariant.count, c.loop-slot.to.ok.0)
