use Rattle.std.proofs.Common.{◌∷◌, ℕ, List, None}
use Rattle.scql_model.specs.Machine.{Machine}
use Rattle.script.specs.Commands.{IsSendable}
use Rattle.card_link.specs.Link.{IsOneOf, LeavesOpen}
use Rattle.planner.specs.Planned.{IfSent, next_of}
use Rattle.card_asking.specs.Calls.{HasGoneOn, StillAnswers}
use Rattle.card_asking.specs.Following.{Follows, run_of, to_go}
use Rattle.card_asking.proofs.following.carry_out.Given as goal

abbrev pub invariant-loop-step : goal.invariant-loop-step
invariant-loop-step g l = record {
  follows : (m : Machine) → g.L.CardLink.is_at l.fn.link m → (rows : List (List ℕ)) × Follows g.L.CardLink.is_at m (next_of None l.fn.plan).plan (next_of None l.fn.plan).step rows l.plan l.step l.link;
  moments : (m : Machine) → g.L.CardLink.is_at l.fn.link m
      → LeavesOpen (IsOneOf (g.L.CardLink.mark l.fn.link) (m.committed ∷ (run_of m l.fn.plan).commits)) (g.L.CardLink.chip l.fn.link) (g.L.CardLink.chip l.link);
  live : StillAnswers g.L.CardLink.is_live g.L.CardLink.faults l.fn.link l.link;
  rest : HasGoneOn g.L.CardLink.mark g.L.CardLink.keeps g.L.CardLink.goes_on l.fn.link l.link;
  sendable : IfSent l.step IsSendable;
}

abbrev pub decreases-loop-step : goal.decreases-loop-step
decreases-loop-step g l = to_go l.plan l.step
