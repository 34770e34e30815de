-- A run that has as many steps as its plan may take doesn't change with more.
use Rattle.std.proofs.Common.{◌≡◌, ℕ, zero, suc, ◌+◌, ◌<◌, Option, Some, None, refl, sym, ◌∙◌, ap, arith}
use Rattle.scql_model.specs.Replies.{Reply}
use Rattle.scql_model.specs.Machine.{Machine, reset}
use Rattle.planner.specs.declared.step.Step.{Step}
use Rattle.planner.specs.declared.step.Step.TheVariants.{Send, Row, ResetCard, Done}
use Rattle.planner.specs.Meaning.{answer_to}
use Rattle.planner.specs.Planned.{Planned, next_of}
use Rattle.planner.specs.Turns.{turns_left, IfGoesOn}
use Rattle.planner.specs.Running.{Ran, run, taken, giving, committing, RunsTo}
use Rattle.planner.proofs.Selecting.{more, SelectEnds}
use Rattle.planner.proofs.Turning.{next_of-below}

step-settled : (k n bound : ℕ) (m : Machine) (q : Planned) (step : Step) → IfGoesOn step (turns_left q < bound)
    → (turns_left q < bound → (x : Machine) (last : Option Reply) → run k x last q ≡ run (more k n) x last q)
    → taken (λ x last y. run k x last y) m q step ≡ taken (λ x last y. run (more k n) x last y) m q step
step-settled k n bound m q (Send c) below again =
    ap (committing (answer_to m c).commits) (again below (answer_to m c).machine (Some (answer_to m c).reply))
step-settled k n bound m q (Row c) below again =
    ap (λ (ran : Ran). giving q.row (committing (answer_to m c).commits ran)) (again below (answer_to m c).machine (Some (answer_to m c).reply))
step-settled k n bound m q ResetCard below again = again below (reset m) None
step-settled k n bound m q (Done closing) below again = refl

pub settled : (k n : ℕ) (m : Machine) (last : Option Reply) (p : Planned) → turns_left p < k → run k m last p ≡ run (more k n) m last p
settled zero n m last p enough = absurd (omega (arith, enough))
settled (suc k) n m last p enough =
    step-settled k n (turns_left p) m (next_of last p).plan (next_of last p).step (next_of-below last p)
    (λ below x reply. settled k n x reply (next_of last p).plan (omega (arith, below, enough)))

pub more-is : (k n : ℕ) → more k n ≡ k + n
more-is zero n = omega arith
more-is (suc k) n = ap suc (more-is k n) ∙ omega arith

pub runs-to : (m : Machine) (p : Planned) (ran : Ran) → SelectEnds m None p ran → RunsTo m p ran
runs-to m p ran e = record {
  runs = λ turns enough.
      settled turns e.steps m None p enough
      ∙ (ap (λ n. run n m None p) (more-is turns e.steps ∙ (omega arith ∙ sym (more-is e.steps turns))) ∙ e.runs turns);
}
