use Rattle.std.proofs.Common.{ap, ◌∙◌, arith}
use Rattle.scql_model.specs.Machine.{Machine}
use Rattle.card_link.specs.Link.{LeavesOpen}
use Rattle.planner.specs.Meaning.{meaning}
use Rattle.terminal.specs.Holding.{Holding, Knows}
use Rattle.terminal.specs.Line.{IsMoment}
use Rattle.card_asking.proofs.Moments.{leaves-all, leaves-both}
use Rattle.terminal.proofs.Ended.{failure-ends, run-moments, closes-ends, last-moment}
use Rattle.terminal.proofs.channels.Channels.run.Goals.{After-carry}
use Rattle.terminal.proofs.channels.Channels.run.Goals as goal

-- the moments until the closing line
run-leaves : (g : _) (c : After-carry g) (m : Machine) → g.L.CardLink.is_at c.args.link.now m → Knows c.args.self.now.transaction m
    → LeavesOpen (IsMoment (g.L.CardLink.mark c.args.link.now) m.committed (meaning m c.args.self.now.channel c.args.plan.now.statement).commits) (g.L.CardLink.chip c.args.link.now) (g.L.CardLink.chip c.carry.new.desk)
run-leaves g c m at knows =
    leaves-all g.L.CardLink.chip _ _ c.args.link.now c.carry.new.desk
    (λ n left within. run-moments (g.L.CardLink.mark c.args.link.now) n m c.args.self.now.channel c.args.plan.now.statement left (g.met.L.CardLink.valid c.args.link.now m at) c.carry.ensures.sent within)
    (c.carry.ensures.runs m at knows).moments

pub returns-in-Ok-clause-ended : goal.returns-in-Ok-clause-ended
returns-in-Ok-clause-ended g c = λ m at knows.
    let before = c.args.self.now in
    let over = (c.in-Ok.ensures.runs m at knows).over in
    record {
      ends = closes-ends g.L.CardLink.is_at g.L.Outlet.given g.L.CardLink.is_live g.L.CardLink.faults g.L.Outlet.sink_faults g.L.CardLink.mark m before c.args.plan.now.statement c.in-Ok.closing c.carry.new.self c.close.result c.args.link.now c.carry.new.desk c.close.new.link
          (g.met.L.CardLink.valid c.args.link.now m at) c.carry.ensures.sent knows c.in-Ok.ensures.holds over
          (rw (c.deref.ensures.0, c.closing_text.ensures, c.refusal_of.ensures) at c.close.ensures.closes) (c.close.ensures.gives.machine (meaning m before.channel c.args.plan.now.statement).machine over.at);
      moments = leaves-both g.L.CardLink.chip _ c.args.link.now c.carry.new.desk c.close.new.link (run-leaves g (goal.at.returns-in-Ok-clause-ended g c).After-carry m at knows)
          (leaves-all g.L.CardLink.chip _ _ c.carry.new.desk c.close.new.link
          (λ n left holds. last-moment (g.L.CardLink.mark c.args.link.now) n m.committed (meaning m before.channel c.args.plan.now.statement).commits left (omega (arith, over.later, holds.above)) (holds.same ∙ over.committed))
          (c.close.ensures.gives.moments (meaning m before.channel c.args.plan.now.statement).machine over.at));
    }

pub returns-in-Err-Card-clause-ended : goal.returns-in-Err-Card-clause-ended
returns-in-Err-Card-clause-ended g c = λ m at knows. record {
  ends = (failure-ends g.L.CardLink.is_at g.L.Outlet.given m c.args.self.now.channel c.args.plan.now.statement c.args.self.now c.args.link.now c.carry.new.desk (g.met.L.CardLink.valid c.args.link.now m at) c.carry.ensures.sent knows).0
      (rw c.in-Err-Card.field-0-is at (c.in-Err-Card.ensures.runs m at knows).fails);
  moments = run-leaves g (goal.at.returns-in-Err-Card-clause-ended g c).After-carry m at knows;
}

pub returns-in-Err-Outlet-clause-ended : goal.returns-in-Err-Outlet-clause-ended
returns-in-Err-Outlet-clause-ended g c = λ m at knows. record {
  ends = (failure-ends g.L.CardLink.is_at g.L.Outlet.given m c.args.self.now.channel c.args.plan.now.statement c.carry.new.self c.args.link.now c.carry.new.desk (g.met.L.CardLink.valid c.args.link.now m at) c.carry.ensures.sent
      (ap (λ (h : Holding). h.transaction) c.in-Err-Outlet.ensures.stays ∙ knows)).1
      (rw c.in-Err-Outlet.field-0-is at (c.in-Err-Outlet.ensures.runs m at knows).fails);
  moments = run-leaves g (goal.at.returns-in-Err-Outlet-clause-ended g c).After-carry m at knows;
}
