use Rattle.std.proofs.Common.{IsTrue, None}
use Rattle.scql_model.specs.Machine.{Machine}
use Rattle.script.specs.Commands.{IsSendable}
use Rattle.card_link.specs.Link.{LeavesOpen}
use Rattle.planner.specs.Planned.{IfSent, next_of}
use Rattle.card_asking.specs.Following.{run_of, to_go}
use Rattle.terminal.specs.Going.{WentOn, IsInRun}
use Rattle.terminal.specs.Failing.{Works}
use Rattle.terminal.proofs.following.carry_out.Given as goal

abbrev pub invariant-loop-room : goal.invariant-loop-room
invariant-loop-room g l = record {
  goes : (m : Machine) → g.L.CardLink.is_at l.fn.desk m
      → WentOn g.L.CardLink.is_at g.L.Outlet.given g.L.CardLink.mark m (next_of None l.fn.plan).plan (next_of None l.fn.plan).step l.fn.desk l.desk l.plan l.room.step;
  moments : (m : Machine) → g.L.CardLink.is_at l.fn.desk m → LeavesOpen (IsInRun (g.L.CardLink.mark l.fn.desk) m (run_of m l.fn.plan)) (g.L.CardLink.chip l.fn.desk) (g.L.CardLink.chip l.desk);
  works : Works g.L.CardLink.is_live g.L.CardLink.faults g.L.Outlet.sink_faults l.fn.desk l.desk;
  live : IsTrue (g.L.CardLink.is_live l.desk);
  goes_on : g.L.CardLink.goes_on l.fn.desk l.desk;
  sendable : IfSent l.room.step IsSendable;
}

abbrev pub decreases-loop-room : goal.decreases-loop-room
decreases-loop-room g l = to_go l.plan l.room.step
