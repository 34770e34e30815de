use Rattle.std.proofs.Common.{◌≡◌, ℕ, ◌+◌, ◌-◌, suc, length, Bool, refl, ap, ◌∙◌, arith}
use Rattle.cell_store.proofs.Runs.{length-marked, run-before}
use Rattle.cell_store.proofs.placing.take_run.Goals as goal

pub loop-step-preserved : goal.loop-step-preserved
loop-step-preserved c =
    let run = c.args.run in
    let cell : ℕ = run.cell + ((run.count - 1) - c.loop-step.step) in
    let here : run.cell + (run.count - (c.loop-step.step + 1)) ≡ cell = omega arith in
    let behind : run.cell + (run.count - c.loop-step.step) ≡ cell + 1 = omega arith in
    let more : c.loop-step.step + 1 ≡ suc c.loop-step.step = omega arith in
    rw (here, more) (record {
      marks = rw (c.mark.ensures, c.loop-step.invariant.marks, behind) refl;
      links = rw (c.loop-step.invariant.links, c.loop-step.invariant.next, behind) refl;
      next = refl;
    })

pub mark-requires-clause-inside : goal.mark-requires-clause-inside
mark-requires-clause-inside c =
    let step = c.loop-step.step in
    omega (arith, ap (length {A = Bool}) c.loop-step.invariant.marks, length-marked c.args.marks.now (c.args.run.cell + (c.args.run.count - step)) step, c.requires.free.inside, c.loop-step-test.true)

pub mark-requires-clause-free : goal.mark-requires-clause-free
mark-requires-clause-free c =
    let step = c.loop-step.step in
    let cell : ℕ = c.args.run.cell + ((c.args.run.count - 1) - step) in
    rw (c.loop-step.invariant.marks) (run-before c.args.marks.now (c.args.run.cell + (c.args.run.count - step)) step cell (omega arith) ∙ c.requires.free.free cell (omega arith) (omega arith))
