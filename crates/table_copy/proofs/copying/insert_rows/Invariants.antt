use Rattle.std.proofs.Common.{ℕ, ◌+◌, ◌≤◌, Result}
use Rattle.scql_base.specs.declared.words.StatusWord.{StatusWord}
use Rattle.scql_model.specs.Database.{Database}
use Rattle.scql_model.specs.Machine.{Machine}
use Rattle.script.specs.Commands.{IsSendable}
use Rattle.card_link.specs.Link.{Holds, LeavesOpen}
use Rattle.person.specs.Showing.{Shows}
use Rattle.planner.specs.Planned.{IfSent}
use Rattle.card_asking.specs.Following.{to_go}
use Rattle.card_asking.specs.Calls.{StillAnswers, HasGoneOn}
use Rattle.table_copy.specs.Filling.{IsFetching, IsFilling, Together}
use Rattle.table_copy.specs.Progress.{rows_shown}
use Rattle.table_copy.proofs.copying.insert_rows.Given as goal

abbrev pub invariant-loop-fetching : goal.invariant-loop-fetching
invariant-loop-fetching g l = record {
  turns : (s d : Machine) (count : ℕ) (total : Result Database StatusWord) → Together g.S.CardLink.is_at g.D.CardLink.is_at s d count 0 l.fn.table total l.fn.fetching.plan l.fn.fetching.step l.fn.source l.fn.dest
      → Together g.S.CardLink.is_at g.D.CardLink.is_at s d count l.rows l.fn.table total l.fetching.plan l.fetching.step l.source l.dest;
  reads : (s : Machine) → IsFetching g.S.CardLink.is_at s l.fn.fetching.plan l.fn.fetching.step l.fn.source → IsFetching g.S.CardLink.is_at s l.fetching.plan l.fetching.step l.source;
  fills : (d : Machine) → IsFilling g.D.CardLink.is_at d l.fn.dest → IsFilling g.D.CardLink.is_at d l.dest;
  still : (s : Machine) → IsFetching g.S.CardLink.is_at s l.fn.fetching.plan l.fn.fetching.step l.fn.source
      → LeavesOpen (Holds (g.S.CardLink.mark l.fn.source) s.committed) (g.S.CardLink.chip l.fn.source) (g.S.CardLink.chip l.source);
  moments : (d : Machine) → IsFilling g.D.CardLink.is_at d l.fn.dest → LeavesOpen (Holds (g.D.CardLink.mark l.fn.dest) d.committed) (g.D.CardLink.chip l.fn.dest) (g.D.CardLink.chip l.dest);
  source : StillAnswers g.S.CardLink.is_live g.S.CardLink.faults l.fn.source l.source;
  dest : StillAnswers g.D.CardLink.is_live g.D.CardLink.faults l.fn.dest l.dest;
  few : l.rows + to_go l.fetching.plan l.fetching.step ≤ to_go l.fn.fetching.plan l.fn.fetching.step;
  shown : Shows g.P.Person.lost g.P.Person.shown (rows_shown l.rows) l.fn.person l.person;
  sendable : IfSent l.fetching.step IsSendable;
  source_rest : HasGoneOn g.S.CardLink.mark g.S.CardLink.keeps g.S.CardLink.goes_on l.fn.source l.source;
  dest_rest : HasGoneOn g.D.CardLink.mark g.D.CardLink.keeps g.D.CardLink.goes_on l.fn.dest l.dest;
}

abbrev pub decreases-loop-fetching : goal.decreases-loop-fetching
decreases-loop-fetching g l = to_go l.fetching.plan l.fetching.step
