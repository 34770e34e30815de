use Rattle.std.proofs.Common.{◌≡◌, ℕ, ◌+◌, ◌-◌, suc, sym, ◌∙◌, arith, length-append, length-take, length-drop}
use Rattle.cell_store.specs.Runs.{run_first}
use Rattle.cell_store.proofs.Runs.{first-some, first-none, octets-more}
use Rattle.cell_store.proofs.placing.fill_run.Goals.{then-step-run, else-step-run}
use Rattle.cell_store.proofs.placing.fill_run.Goals as goal

pub loop-step-preserved : goal.loop-step-preserved
loop-step-preserved c =
    let cell : ℕ = c.args.run.cell + c.loop-step.step in
    let rest : ℕ = c.args.run.count - (c.loop-step.step + 1) in
    let piece : ℕ = c.args.piece + c.loop-step.step in
    let left : c.args.run.count - c.loop-step.step ≡ suc rest = omega arith in
    let behind : cell + 1 ≡ c.args.run.cell + (c.loop-step.step + 1) = omega arith in
    let pieces : piece + 1 ≡ c.args.piece + (c.loop-step.step + 1) = omega arith in
    let next : c.if-step-run.next ≡ run_first (cell + 1) rest c.args.after = elim c.if-step-run.branch [
      | then-step-run w ↦ w.next-is ∙ sym (first-some (cell + 1) rest c.args.after (omega arith))
      | else-step-run w ↦ w.next-is ∙ sym (first-none (cell + 1) rest c.args.after (omega arith))
    ] in
    let more = octets-more c.loop-step.octets.items c.args.payload.now _ cell rest c.if-step-run.next c.args.after piece next (rw left at c.loop-step.invariant.rest) in
    record {
      rest = rw (c.push_cell.ensures.octets, ← behind, ← pieces) more;
      size = rw c.push_cell.ensures.octets (simp (length-append, length-take, length-drop) (omega arith));
    }
