use Rattle.std.proofs.Common.{◌∷◌, subst, rules}
use Rattle.scql_model.specs.Machine.{Machine}
use Rattle.card_link.specs.Link.{IsOneOf, LeavesOpen}
use Rattle.planner.specs.declared.step.Step.{Step}
use Rattle.card_asking.specs.Following.{Follows, given_by, run_from}
use Rattle.card_asking.proofs.Moments.{leaves-all, leaves-both}
use Rattle.terminal.specs.Going.{IsInRun}
use Rattle.terminal.proofs.Went.{step-goes, given-moment, step-moment, step-mute, step-failed, cut-step}
use Rattle.terminal.proofs.following.follow.Goals.{After-follow, After-print_given}
use Rattle.terminal.proofs.following.follow.Goals as goal

-- the moments of the row that is printed
given-leaves : (g : _) (c : After-print_given g) (m : Machine) → g.L.CardLink.is_at c.args.desk.now m
    → LeavesOpen (IsInRun (g.L.CardLink.mark c.args.desk.now) m (run_from m c.args.plan.now c.args.room.now.step)) (g.L.CardLink.chip c.args.desk.now) (g.L.CardLink.chip c.print_given.new.desk)
given-leaves g c m at =
    leaves-all g.L.CardLink.chip _ _ c.args.desk.now c.print_given.new.desk
    (λ n left holds. given-moment (g.L.CardLink.mark c.args.desk.now) (g.L.CardLink.mark c.print_given.new.desk) m c.args.plan.now c.args.room.now.step n left c.print_given.ensures.still holds) (c.print_given.ensures.gives.gives.moments m at)

-- and of the step behind it
both-leave : (g : _) (c : After-follow g) (m : Machine) → g.L.CardLink.is_at c.args.desk.now m
    → LeavesOpen (IsInRun (g.L.CardLink.mark c.args.desk.now) m (run_from m c.args.plan.now c.args.room.now.step)) (g.L.CardLink.chip c.args.desk.now) (g.L.CardLink.chip c.print_given.new.desk)
    → LeavesOpen (IsInRun (g.L.CardLink.mark c.args.desk.now) m (run_from m c.args.plan.now c.args.room.now.step)) (g.L.CardLink.chip c.args.desk.now) (g.L.CardLink.chip c.follow.new.link)
both-leave g c m at given =
    leaves-both g.L.CardLink.chip _ c.args.desk.now c.print_given.new.desk c.follow.new.link given
    (leaves-all g.L.CardLink.chip _ _ c.print_given.new.desk c.follow.new.link
    (λ n left is. step-moment (g.L.CardLink.mark c.args.desk.now) (g.L.CardLink.mark c.print_given.new.desk) m c.args.plan.now c.args.room.now.step n left c.print_given.ensures.gives.gives.later c.print_given.ensures.still is)
    (subst (λ (s : Step). LeavesOpen (IsOneOf (g.L.CardLink.mark c.print_given.new.desk) (m.committed ∷ (run_from m c.args.plan.now s).commits)) (g.L.CardLink.chip c.print_given.new.desk) (g.L.CardLink.chip c.follow.new.link))
    c.print_given.ensures.step (c.follow.ensures.moments m (c.print_given.ensures.gives.gives.machine m at))))

pub returns-in_err-print_given-clause-runs : goal.returns-in_err-print_given-clause-runs
returns-in_err-print_given-clause-runs g c = λ m at.
    step-failed c.in_err-print_given.field-0.0 (search rules)
    (cut-step g.L.CardLink.is_at g.L.Outlet.given m c.args.plan.now c.args.room.now.step c.in_err-print_given.field-0.0 c.args.desk.now c.print_given.new.desk c.in_err-print_given.ensures.gives.fails.0 c.in_err-print_given.ensures.gives.cut
    c.in_err-print_given.ensures.row (c.print_given.ensures.gives.gives.machine m at))
    (given-leaves g (goal.at.returns-in_err-print_given-clause-runs g c).After-print_given m at)

pub returns-in-Ok-clause-runs : goal.returns-in-Ok-clause-runs
returns-in-Ok-clause-runs g c = λ m at.
    record {
      goes = step-goes g.L.CardLink.is_at g.L.Outlet.given g.L.CardLink.mark m c.args.plan.now c.follow.new.plan c.args.room.now.step c.follow.new.step c.args.desk.now c.print_given.new.desk c.follow.new.link
          c.in_ok-print_given.ensures.gives.printed c.print_given.ensures.gives.gives.later c.print_given.ensures.still (g.met.L.Desk.kept c.print_given.new.desk c.follow.new.link c.follow.ensures.leaves.rest.kept).0 c.follow.ensures.leaves.rest.marked
          (subst (λ (s : Step). Follows g.L.CardLink.is_at m c.args.plan.now s (given_by c.args.plan.now s) c.follow.new.plan c.follow.new.step c.follow.new.link) c.print_given.ensures.step
          (c.in-Ok.ensures.follows m (c.print_given.ensures.gives.gives.machine m at)));
      fails = tt;
      moments = both-leave g (goal.at.returns-in-Ok-clause-runs g c).After-follow m at (given-leaves g (goal.at.returns-in-Ok-clause-runs g c).After-print_given m at);
    }

pub returns-in-Err-clause-runs : goal.returns-in-Err-clause-runs
returns-in-Err-clause-runs g c = λ m at. record {
  goes = tt;
  fails = step-mute g.L.Outlet.given m c.args.plan.now c.args.room.now.step c.args.desk.now c.print_given.new.desk c.follow.new.link c.in_ok-print_given.ensures.gives.printed
      (g.met.L.Desk.kept c.print_given.new.desk c.follow.new.link c.follow.ensures.leaves.rest.kept).0;
  moments = both-leave g (goal.at.returns-in-Err-clause-runs g c).After-follow m at (given-leaves g (goal.at.returns-in-Err-clause-runs g c).After-print_given m at);
}
