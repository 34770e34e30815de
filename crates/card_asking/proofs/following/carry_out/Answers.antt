use Rattle.std.proofs.Common.{[], refl, inl, ◌++◌, rules}
use Rattle.card_asking.proofs.Calls.{answers-both, leaves-mute, mutes-then, rest-both, rest-same}
use Rattle.card_asking.proofs.Moments.{leaves-all, leaves-both, leaves-none}
use Rattle.card_asking.proofs.Followed.{first-follows, follows-both, follows-moment, is-ended}
use Rattle.card_asking.proofs.following.carry_out.Goals as goal

pub loop-step-init : goal.loop-step-init
loop-step-init g c = record {
  follows = λ m at. ([], first-follows g.L.CardLink.is_at m c.args.plan.now c.next_into.new.self c.next_into.new.step c.args.link.now at c.next_into.ensures.next);
  moments = λ m at.
      leaves-none g.L.CardLink.chip g.L.CardLink.mark _ c.args.link.now m.committed (g.met.L.CardLink.marks c.args.link.now) (g.met.L.CardLink.opens c.args.link.now m at) (inl (refl, refl));
  live = record { live = c.requires.live; same = refl };
  rest = rest-same g.L.CardLink.mark g.L.CardLink.keeps g.L.CardLink.goes_on c.args.link.now (g.met.L.CardLink.keeps_same c.args.link.now) (g.met.L.CardLink.goes_on_same c.args.link.now);
  sendable = c.next_into.ensures.sendable;
}

pub returns-in-Done-clause-runs : goal.returns-in-Done-clause-runs
returns-in-Done-clause-runs g c = λ m at.
    let e = c.loop-step.invariant.follows m at in
    record {
      over = is-ended g.L.CardLink.is_at m _ c.loop-step.plan _ e.0 c.in-Done.closing c.loop-step.link (rw c.in-Done.is at e.1);
      moments = c.loop-step.invariant.moments m at;
    }

pub loop-step-preserved : goal.loop-step-preserved
loop-step-preserved g c = record {
  follows = λ m at.
      let e = c.loop-step.invariant.follows m at in
      (e.0 ++ _, follows-both g.L.CardLink.is_at m _ c.loop-step.plan c.follow.new.plan _ c.loop-step.step c.follow.new.step e.0 _ c.loop-step.link c.follow.new.link e.1 (c.in_ok-follow.ensures.follows e.1.machine e.1.at));
  moments = λ m at.
      let e = c.loop-step.invariant.follows m at in
      leaves-both g.L.CardLink.chip _ c.args.link.now c.loop-step.link c.follow.new.link (c.loop-step.invariant.moments m at)
      (leaves-all g.L.CardLink.chip _ _ c.loop-step.link c.follow.new.link
      (λ n left is. follows-moment g.L.CardLink.is_at (g.L.CardLink.mark c.args.link.now) (g.L.CardLink.mark c.loop-step.link) m _ c.loop-step.plan _ c.loop-step.step e.0 c.loop-step.link n left c.loop-step.invariant.rest.marked e.1 is)
      (c.follow.ensures.moments e.1.machine e.1.at));
  live = answers-both g.L.CardLink.is_live g.L.CardLink.faults c.args.link.now c.loop-step.link c.follow.new.link c.loop-step.invariant.live c.in_ok-follow.ensures.leaves.replied;
  rest = rest-both g.L.CardLink.mark g.L.CardLink.keeps g.L.CardLink.goes_on c.args.link.now c.loop-step.link c.follow.new.link (g.met.L.CardLink.keeps_then c.args.link.now c.loop-step.link c.follow.new.link) (g.met.L.CardLink.goes_on_then c.args.link.now c.loop-step.link c.follow.new.link) c.loop-step.invariant.rest c.follow.ensures.leaves.rest;
  sendable = c.in_ok-follow.ensures.comes_on.next_sendable;
}

pub returns-in_err-follow-clause-runs : goal.returns-in_err-follow-clause-runs
returns-in_err-follow-clause-runs g c = λ m at.
    let e = c.loop-step.invariant.follows m at in
    record {
      over = search rules;
      moments =
          leaves-both g.L.CardLink.chip _ c.args.link.now c.loop-step.link c.follow.new.link (c.loop-step.invariant.moments m at)
          (leaves-all g.L.CardLink.chip _ _ c.loop-step.link c.follow.new.link
          (λ n left is. follows-moment g.L.CardLink.is_at (g.L.CardLink.mark c.args.link.now) (g.L.CardLink.mark c.loop-step.link) m _ c.loop-step.plan _ c.loop-step.step e.0 c.loop-step.link n left c.loop-step.invariant.rest.marked e.1 is)
          (c.follow.ensures.moments e.1.machine e.1.at));
    }

pub returns-in_err-follow-clause-leaves : goal.returns-in_err-follow-clause-leaves
returns-in_err-follow-clause-leaves g c =
    leaves-mute g.L.CardLink.is_live g.L.CardLink.faults g.L.CardLink.mark g.L.CardLink.keeps g.L.CardLink.goes_on c.from_residual.result c.in_err-follow.field-0.0 c.follow.new.reply c.args.link.now c.follow.new.link (search rules)
    (mutes-then g.L.CardLink.is_live g.L.CardLink.faults c.args.link.now c.loop-step.link c.follow.new.link c.loop-step.invariant.live c.in_err-follow.ensures.leaves.mute.0, c.in_err-follow.ensures.leaves.mute.1)
    (rest-both g.L.CardLink.mark g.L.CardLink.keeps g.L.CardLink.goes_on c.args.link.now c.loop-step.link c.follow.new.link (g.met.L.CardLink.keeps_then c.args.link.now c.loop-step.link c.follow.new.link) (g.met.L.CardLink.goes_on_then c.args.link.now c.loop-step.link c.follow.new.link) c.loop-step.invariant.rest c.follow.ensures.leaves.rest)
