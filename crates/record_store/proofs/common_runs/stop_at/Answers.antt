use Rattle.std.proofs.Common.{◌≡◌, ◌-◌, slice_index, refl, arith}
use Rattle.cell_store.proofs.Freeing.{link-read}
use Rattle.record_store.proofs.RunsOfCommon.{stops-none, stops-more, stops-fewer, stops-at, stops-next}
use Rattle.record_store.proofs.common_runs.stop_at.Goals.{After-index}
use Rattle.record_store.proofs.common_runs.stop_at.Goals as goal

read : (c : After-index) → c.index.result.now ≡ slice_index c.loop-from.ends.items (c.loop-from.from - 1)
read c =
    link-read c.loop-from.ends.items c.loop-from.ends.items (c.loop-from.from - 1) c.index.result.now refl
    (omega (arith, c.loop-from-test.true, c.loop-from.invariant.few, c.loop-from.invariant.size, c.requires.inside)) c.index.ensures

pub loop-from-init : goal.loop-from-init
loop-from-init c = stops-none c.args.ends.now.items c.args.slot

pub loop-from-preserved : goal.loop-from-preserved
loop-from-preserved c =
    stops-more c.args.ends.now.items c.loop-from.ends.items c.loop-from.from c.args.slot c.loop-from-test.true c.loop-from.invariant
    (omega (arith, c.if-index-slot.true, read (goal.at.loop-from-preserved c).After-index)) c.requires.inside

pub returns-else-index-slot-clause-stops : goal.returns-else-index-slot-clause-stops
returns-else-index-slot-clause-stops c = stops-at c.args.ends.now.items c.loop-from.ends.items c.loop-from.from c.args.slot c.requires.ends c.loop-from.invariant (λ _. omega (arith, c.if-index-slot.false, read (goal.at.returns-else-index-slot-clause-stops c).After-index)) c.requires.inside

pub returns-else-index-slot-clause-fewer : goal.returns-else-index-slot-clause-fewer
returns-else-index-slot-clause-fewer c = stops-fewer c.args.ends.now.items c.loop-from.ends.items c.loop-from.from c.args.slot c.requires.ends c.loop-from.invariant (λ _. omega (arith, c.if-index-slot.false, read (goal.at.returns-else-index-slot-clause-fewer c).After-index)) c.requires.inside

pub returns-else-index-slot-clause-ends : goal.returns-else-index-slot-clause-ends
returns-else-index-slot-clause-ends c = stops-next c.args.ends.now.items c.loop-from.ends.items c.loop-from.from c.args.slot c.requires.ends c.loop-from.invariant (λ _. omega (arith, c.if-index-slot.false, read (goal.at.returns-else-index-slot-clause-ends c).After-index)) c.requires.inside

pub returns-after-loop-from-clause-stops : goal.returns-after-loop-from-clause-stops
returns-after-loop-from-clause-stops c = stops-at c.args.ends.now.items c.loop-from.ends.items c.loop-from.from c.args.slot c.requires.ends c.loop-from.invariant (λ some. absurd (omega (arith, some, c.loop-from-test.false))) c.requires.inside

pub returns-after-loop-from-clause-fewer : goal.returns-after-loop-from-clause-fewer
returns-after-loop-from-clause-fewer c = stops-fewer c.args.ends.now.items c.loop-from.ends.items c.loop-from.from c.args.slot c.requires.ends c.loop-from.invariant (λ some. absurd (omega (arith, some, c.loop-from-test.false))) c.requires.inside

pub returns-after-loop-from-clause-ends : goal.returns-after-loop-from-clause-ends
returns-after-loop-from-clause-ends c = stops-next c.args.ends.now.items c.loop-from.ends.items c.loop-from.from c.args.slot c.requires.ends c.loop-from.invariant (λ some. absurd (omega (arith, some, c.loop-from-test.false))) c.requires.inside
