use Rattle.std.proofs.Common.{◌≡◌, ◌+◌, ◌<◌, ◌++◌, [], ◌∷◌, ℕ, List, length, take, get_or, refl, sym, ap, subst, ◌∙◌, arith}
use Rattle.std.proofs.lemmas.List.{take_all, take_more}
use Rattle.record_store.specs.Slots.{changed}
use Rattle.record_store.proofs.ChangedSlots.{SoFar, so_far-none, so_far-same, so_far-more, so_far-end}
use Rattle.record_store.proofs.Rising.{rises-none, rises-same, rises-more}
use Rattle.record_store.proofs.Touching.{among-at, not-before}
use Rattle.record_store.proofs.entries.take_entries.Goals.{After-loop-slot, then-first-committed, else-first-committed}
use Rattle.record_store.proofs.entries.take_entries.Goals as goal

pub loop-slot-preserved : goal.loop-slot-preserved
loop-slot-preserved c =
    let slots = c.args.slots.now in
    let i = c.loop-slot.slot-index in
    let slot : ℕ = get_or slots i 0 in
    let s = c.loop-slot.invariant.so_far in
    let inside : slot < length c.args.committed.now = c.requires.slots.inside slot (among-at slots i c.loop-slot-test.true) in
    let new = not-before slots i c.loop-slot-test.true c.requires.slots.distinct in
    let more : take (i + 1) slots ≡ take i slots ++ slot ∷ [] = take_more slots i 0 c.loop-slot-test.true in
    let next : SoFar c.args.committed.now c.args.working.now (take i slots ++ slot ∷ []) c.if-first-committed.entries.items = elim c.if-first-committed.branch [
      | then-first-committed w ↦ rw (w.entries-is, w.push_reserved.ensures.items) (so_far-more c.args.committed.now c.args.working.now (take i slots) slot _ c.loop-slot.entries.items inside c.requires.count new refl w.if-first-committed.true s)
      | else-first-committed w ↦ rw (w.entries-is) (so_far-same c.args.committed.now c.args.working.now (take i slots) slot c.loop-slot.entries.items new w.if-first-committed.false s)
    ] in
    record {
      so_far = subst (λ (done : List ℕ). SoFar c.args.committed.now c.args.working.now done c.if-first-committed.entries.items) (sym more) next;
      rises = elim c.if-first-committed.branch [
        | then-first-committed w ↦ rw (w.entries-is, w.push_reserved.ensures.items) (rises-more slots i _ c.loop-slot.entries.items c.loop-slot-test.true c.requires.rising c.loop-slot.invariant.rises)
        | else-first-committed w ↦ rw (w.entries-is) (rises-same slots i c.loop-slot.entries.items c.loop-slot.invariant.rises)
      ];
      room = elim c.if-first-committed.branch [
        | then-first-committed w ↦ rw (w.entries-is) (w.push_reserved.ensures.capacity ∙ c.loop-slot.invariant.room)
        | else-first-committed w ↦ rw (w.entries-is) (c.loop-slot.invariant.room)
      ];
    }

pub loop-slot-init : goal.loop-slot-init
loop-slot-init c = record { so_far = rw (c.clear.ensures.items) (so_far-none c.args.committed.now c.args.working.now); rises = rw (c.clear.ensures.items) (rises-none c.args.slots.now); room = c.clear.ensures.capacity }

-- after the last slot
done : (c : After-loop-slot) → SoFar c.args.committed.now c.args.working.now c.args.slots.now c.loop-slot.entries.items
done c = subst (λ (slots : List ℕ). SoFar c.args.committed.now c.args.working.now slots c.loop-slot.entries.items) (take_all c.loop-slot.slot-index c.args.slots.now (omega arith)) c.loop-slot.invariant.so_far

pub returns-clause-entries : goal.returns-clause-entries
returns-clause-entries c = so_far-end c.args.committed.now c.args.working.now c.args.slots.now c.loop-slot.entries.items c.requires.count c.requires.others (done (goal.at.returns-clause-entries c).After-loop-slot)

pub returns-clause-range : goal.returns-clause-range
returns-clause-range c = (done (goal.at.returns-clause-range c).After-loop-slot).range

pub returns-clause-count : goal.returns-clause-count
returns-clause-count c =
    let s = done (goal.at.returns-clause-count c).After-loop-slot in
    s.count ∙ ap (λ (firsts : List ℕ). changed c.args.committed.now firsts) (so_far-end c.args.committed.now c.args.working.now c.args.slots.now c.loop-slot.entries.items c.requires.count c.requires.others s)

pub bounds-working-slot : goal.bounds-working-slot
bounds-working-slot c =
    let there = c.requires.slots.inside (get_or c.args.slots.now c.loop-slot.slot-index 0) (among-at c.args.slots.now c.loop-slot.slot-index c.loop-slot-test.true) in
    omega (arith, there, c.requires.count)
