use Rattle.std.proofs.Common.{◌≡◌, length, map, drop}
use Rattle.std.specs.List.{AllByRecursion}
use Rattle.scql_model.specs.Machine.{Machine}
use Rattle.card_link.specs.Link.{Holds, LeavesOpen}
use Rattle.person.specs.Showing.{Shows}
use Rattle.card_asking.specs.Calls.{StillAnswers, HasGoneOn}
use Rattle.query_run.specs.Fetching.{CanBeAsked}
use Rattle.query_run.specs.Progress.{fetched_texts}
use Rattle.query_run.proofs.Tables.{GivenSoFar}
use Rattle.query_run.proofs.fetching.fetch_all.Given as goal

abbrev pub invariant-loop-asked : goal.invariant-loop-asked
invariant-loop-asked g l = record {
  given : (m : Machine) → g.L.CardLink.is_at l.fn.link m → GivenSoFar g.L.CardLink.is_at m l.fn.objects (drop l.asked-index l.fn.objects) l.tables.items l.link;
  count : length l.tables.items ≡ l.asked-index;
  moments : (m : Machine) → g.L.CardLink.is_at l.fn.link m → LeavesOpen (Holds (g.L.CardLink.mark l.fn.link) m.committed) (g.L.CardLink.chip l.fn.link) (g.L.CardLink.chip l.link);
  answers : StillAnswers g.L.CardLink.is_live g.L.CardLink.faults l.fn.link l.link;
  shown : Shows g.P.Person.lost g.P.Person.shown (fetched_texts (map length l.tables.items)) l.fn.person l.person;
  sendable : AllByRecursion CanBeAsked (drop l.asked-index l.fn.objects);
  rest : HasGoneOn g.L.CardLink.mark g.L.CardLink.keeps g.L.CardLink.goes_on l.fn.link l.link;
}
