use Rattle.std.proofs.Common.{◌∷◌}
use Rattle.scql_model.specs.Machine.{Machine}
use Rattle.card_link.specs.Link.{IsOneOf, LeavesOpen}
use Rattle.planner.specs.Meaning.{answer_to}
use Rattle.card_asking.specs.Calls.{HasGoneOn, StillAnswers}
use Rattle.card_asking.proofs.Sent.{HasSent}
use Rattle.card_asking.proofs.asking.ask.Given as goal

abbrev pub invariant-loop-part : goal.invariant-loop-part
invariant-loop-part g l = record {
  told : (m : Machine) → g.L.CardLink.is_at l.fn.link m → HasSent g.L.CardLink.is_at m l.fn.command l.part l.link;
  moments : (m : Machine) → g.L.CardLink.is_at l.fn.link m
      → LeavesOpen (IsOneOf (g.L.CardLink.mark l.fn.link) (m.committed ∷ (answer_to m l.fn.command).commits)) (g.L.CardLink.chip l.fn.link) (g.L.CardLink.chip l.link);
  live : StillAnswers g.L.CardLink.is_live g.L.CardLink.faults l.fn.link l.link;
  rest : HasGoneOn g.L.CardLink.mark g.L.CardLink.keeps g.L.CardLink.goes_on l.fn.link l.link;
}
