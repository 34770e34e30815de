use Rattle.std.proofs.Common.{List, length}
use Rattle.scql_model.specs.Machine.{Machine}
use Rattle.scql_model.specs.Matching.{Values}
use Rattle.script.specs.Commands.{IsSendable}
use Rattle.card_link.specs.Link.{Holds, LeavesOpen}
use Rattle.person.specs.Showing.{Shows}
use Rattle.planner.specs.declared.closing.Closing.{Closing}
use Rattle.planner.specs.Planned.{IfSent}
use Rattle.card_asking.specs.Following.{to_go}
use Rattle.card_asking.specs.Giving.{GivesRows}
use Rattle.card_asking.specs.Calls.{StillAnswers, HasGoneOn}
use Rattle.query_run.specs.Fetching.{IsFetching}
use Rattle.query_run.specs.Progress.{rows_shown}
use Rattle.query_run.proofs.fetching.fetch_rows.Given as goal

abbrev pub invariant-loop-step : goal.invariant-loop-step
invariant-loop-step g l = record {
  fetches : (m last : Machine) (closing : Closing) (all : List Values) → GivesRows g.L.CardLink.is_at m closing last all l.fn.plan l.fn.step l.fn.link → IsFetching g.L.CardLink.is_at m closing last all l.rows.items l.plan l.step l.link;
  still : (m last : Machine) (closing : Closing) (all : List Values) → GivesRows g.L.CardLink.is_at m closing last all l.fn.plan l.fn.step l.fn.link
      → LeavesOpen (Holds (g.L.CardLink.mark l.fn.link) m.committed) (g.L.CardLink.chip l.fn.link) (g.L.CardLink.chip l.link);
  answers : StillAnswers g.L.CardLink.is_live g.L.CardLink.faults l.fn.link l.link;
  shown : Shows g.P.Person.lost g.P.Person.shown (rows_shown (length l.rows.items)) l.fn.person l.person;
  sendable : IfSent l.step IsSendable;
  rest : HasGoneOn g.L.CardLink.mark g.L.CardLink.keeps g.L.CardLink.goes_on l.fn.link l.link;
}

abbrev pub decreases-loop-step : goal.decreases-loop-step
decreases-loop-step g l = to_go l.plan l.step
