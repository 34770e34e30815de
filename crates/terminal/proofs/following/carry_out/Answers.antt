use Rattle.std.proofs.Common.{refl, inl, sym, subst, IsTrue, arith, rules}
use Rattle.scql_model.specs.Machine.{Machine}
use Rattle.card_link.specs.Link.{LeavesOpen}
use Rattle.card_asking.specs.Following.{run_of}
use Rattle.terminal.specs.Going.{IsInRun}
use Rattle.terminal.proofs.Went.{first-goes, goes-both, goes-moment, fails-behind, is-over, works-both, causes-behind, leaves-failed, plan-failed}
use Rattle.card_asking.proofs.Moments.{leaves-all, leaves-both, leaves-none}
use Rattle.terminal.proofs.following.carry_out.Goals.{After-follow}
use Rattle.terminal.proofs.following.carry_out.Goals as goal

pub loop-room-init : goal.loop-room-init
loop-room-init g c = record {
  goes = λ m at. first-goes g.L.CardLink.is_at g.L.Outlet.given g.L.CardLink.mark m c.args.plan.now c.next_into.new.self c.next_into.new.step c.args.desk.now at c.next_into.ensures.next;
  moments = λ m at.
      leaves-none g.L.CardLink.chip g.L.CardLink.mark _ c.args.desk.now m.committed (g.met.L.CardLink.marks c.args.desk.now) (g.met.L.CardLink.opens c.args.desk.now m at) (record { above = omega arith; still = λ none. refl; among = inl (refl, refl) });
  works = record { live = refl; faults_same = refl; sink_same = refl };
  live = c.requires.live;
  goes_on = g.met.L.CardLink.goes_on_same c.args.desk.now;
  sendable = c.next_into.ensures.sendable;
}

pub returns-in-Done-clause-runs : goal.returns-in-Done-clause-runs
returns-in-Done-clause-runs g c = λ m at. record {
  over = is-over g.L.CardLink.is_at g.L.Outlet.given g.L.CardLink.mark m _ _ _ c.in-Done.closing c.args.desk.now c.loop-room.desk (rw c.in-Done.is at c.loop-room.invariant.goes m at);
  fails = tt;
  moments = c.loop-room.invariant.moments m at;
}

-- the moments of the steps so far, and of the next one
next-leaves : (g : _) (c : After-follow g) (m : Machine) → g.L.CardLink.is_at c.args.desk.now m
    → LeavesOpen (IsInRun (g.L.CardLink.mark c.args.desk.now) m (run_of m c.args.plan.now)) (g.L.CardLink.chip c.args.desk.now) (g.L.CardLink.chip c.follow.new.desk)
next-leaves g c m at =
    let e = c.loop-room.invariant.goes m at in
    leaves-both g.L.CardLink.chip _ c.args.desk.now c.loop-room.desk c.follow.new.desk (c.loop-room.invariant.moments m at)
    (leaves-all g.L.CardLink.chip _ _ c.loop-room.desk c.follow.new.desk
    (λ n left within. goes-moment g.L.CardLink.is_at g.L.Outlet.given g.L.CardLink.mark m _ c.loop-room.plan _ c.loop-room.room.step c.args.desk.now c.loop-room.desk n left e within)
    (c.follow.ensures.runs e.follows.machine e.follows.at).moments)

pub loop-room-preserved : goal.loop-room-preserved
loop-room-preserved g c = record {
  goes = λ m at.
      let e = c.loop-room.invariant.goes m at in
      goes-both g.L.CardLink.is_at g.L.Outlet.given g.L.CardLink.mark m _ c.loop-room.plan c.follow.new.plan _ c.loop-room.room.step c.follow.new.room.step c.args.desk.now c.loop-room.desk c.follow.new.desk e (c.in_ok-follow.ensures.runs e.follows.machine e.follows.at).goes;
  moments = λ m at. next-leaves g (goal.at.loop-room-preserved g c).After-follow m at;
  works = works-both g.L.CardLink.is_live g.L.CardLink.faults g.L.Outlet.sink_faults c.args.desk.now c.loop-room.desk c.follow.new.desk c.loop-room.invariant.works c.in_ok-follow.ensures.leaves.works;
  live = subst IsTrue (sym c.in_ok-follow.ensures.leaves.works.live) c.loop-room.invariant.live;
  goes_on = g.met.L.CardLink.goes_on_then c.args.desk.now c.loop-room.desk c.follow.new.desk c.loop-room.invariant.goes_on c.follow.ensures.leaves.goes_on;
  sendable = c.in_ok-follow.ensures.comes_on.next_sendable;
}

pub returns-in_err-follow-clause-runs : goal.returns-in_err-follow-clause-runs
returns-in_err-follow-clause-runs g c = λ m at.
    let e = c.loop-room.invariant.goes m at in
    plan-failed c.in_err-follow.field-0.0 (search rules)
    (fails-behind g.L.CardLink.is_at g.L.Outlet.given g.L.CardLink.mark m _ c.loop-room.plan _ c.loop-room.room.step c.in_err-follow.field-0.0 c.args.desk.now c.loop-room.desk c.follow.new.desk e (c.in_err-follow.ensures.runs e.follows.machine e.follows.at).fails)
    (next-leaves g (goal.at.returns-in_err-follow-clause-runs g c).After-follow m at)

pub returns-in_err-follow-clause-leaves : goal.returns-in_err-follow-clause-leaves
returns-in_err-follow-clause-leaves g c =
    leaves-failed c.in_err-follow.field-0.0 (search rules)
    (causes-behind g.L.CardLink.is_live g.L.CardLink.faults g.L.Outlet.sink_faults c.in_err-follow.field-0.0 c.args.desk.now c.loop-room.desk c.follow.new.desk c.loop-room.invariant.works c.in_err-follow.ensures.leaves.causes)
    (g.met.L.CardLink.goes_on_then c.args.desk.now c.loop-room.desk c.follow.new.desk c.loop-room.invariant.goes_on c.follow.ensures.leaves.goes_on)
