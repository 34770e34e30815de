use Rattle.std.proofs.Common.{◌≡◌, ◌+◌, ◌++◌, [], ◌∷◌, ◌<◌, List, ℕ, length, take, get_or, sym, subst, arith}
use Rattle.std.proofs.lemmas.List.{take_all, take_more}
use Rattle.cell_store.specs.Cells.{Cells}
use Rattle.record_store.proofs.Replaced.{Freeing, Freeing-start, Freeing-kept, Freeing-freed, freed-all, others-all}
use Rattle.record_store.proofs.Touching.{among-at, not-before}
use Rattle.record_store.proofs.slots.free_replaced.Goals.{After-loop-slot, then-first-kept, else-first-kept}
use Rattle.record_store.proofs.slots.free_replaced.Goals as goal

pub loop-slot-init : goal.loop-slot-init
loop-slot-init c = Freeing-start c.args.cells.now c.args.replaced.now c.args.kept.now

pub bounds-replaced-slot : goal.bounds-replaced-slot
bounds-replaced-slot c = c.requires.slots.inside (get_or c.args.slots.now c.loop-slot.slot-index 0) (among-at c.args.slots.now c.loop-slot.slot-index c.loop-slot-test.true)

pub loop-slot-preserved : goal.loop-slot-preserved
loop-slot-preserved c =
    let slots = c.args.slots.now in
    let i = c.loop-slot.slot-index in
    let slot : ℕ = get_or slots i 0 in
    let inside : slot < length c.args.replaced.now = c.requires.slots.inside slot (among-at slots i c.loop-slot-test.true) in
    let more : take (i + 1) slots ≡ take i slots ++ slot ∷ [] = take_more slots i 0 c.loop-slot-test.true in
    subst (λ (done : List ℕ). Freeing c.args.cells.now c.if-first-kept.cells c.args.replaced.now c.args.kept.now done) (sym more) (elim c.if-first-kept.branch [
      | then-first-kept w ↦ subst (λ (store : Cells). Freeing c.args.cells.now store c.args.replaced.now c.args.kept.now (take i slots ++ slot ∷ [])) (sym w.cells-is)
          (Freeing-freed c.args.cells.now c.loop-slot.cells w.free_chain.new.self c.args.replaced.now c.args.kept.now (take i slots) slot inside (not-before slots i c.loop-slot-test.true c.requires.slots.distinct) w.if-first-kept.true w.free_chain.ensures.freed w.free_chain.ensures.cells
          w.free_chain.ensures.links w.free_chain.ensures.fewer w.free_chain.ensures.count c.loop-slot.invariant)
      | else-first-kept w ↦ subst (λ (store : Cells). Freeing c.args.cells.now store c.args.replaced.now c.args.kept.now (take i slots ++ slot ∷ [])) (sym w.cells-is)
          (Freeing-kept c.args.cells.now c.loop-slot.cells c.args.replaced.now c.args.kept.now (take i slots) slot w.if-first-kept.false c.loop-slot.invariant)
    ])

done : (c : After-loop-slot) → Freeing c.args.cells.now c.loop-slot.cells c.args.replaced.now c.args.kept.now c.args.slots.now
done c = subst (λ (slots : List ℕ). Freeing c.args.cells.now c.loop-slot.cells c.args.replaced.now c.args.kept.now slots) (take_all c.loop-slot.slot-index c.args.slots.now (omega arith)) c.loop-slot.invariant

pub returns-clause-freed : goal.returns-clause-freed
returns-clause-freed c = freed-all c.args.cells.now c.loop-slot.cells c.args.replaced.now c.args.kept.now c.args.slots.now c.requires.others (done (goal.at.returns-clause-freed c).After-loop-slot)

pub returns-clause-others : goal.returns-clause-others
returns-clause-others c = others-all c.args.cells.now c.loop-slot.cells c.args.replaced.now c.args.kept.now c.args.slots.now c.requires.slots (done (goal.at.returns-clause-others c).After-loop-slot)
