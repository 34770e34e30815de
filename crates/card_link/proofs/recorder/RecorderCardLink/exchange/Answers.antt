use Rattle.std.proofs.Common.{◌∷◌, subst}
use Rattle.scql_model.specs.Machine.{Machine}
use Rattle.scql_model.specs.Step.{step}
use Rattle.card_link.specs.Link.{IsOneOf, LeavesOpen}
use Rattle.card_link.specs.Recording.{Recording}
use Rattle.card_link.proofs.recorder.RecorderCardLink.exchange.Goals as goal

pub returns-clause-moments : goal.returns-clause-moments
returns-clause-moments g c =
    subst (λ (r : Recording g.row.L.Denot). (m : Machine) → g.L.CardLink.is_at r.inner m
    → LeavesOpen (IsOneOf (g.L.CardLink.mark r.inner) (m.committed ∷ (step m c.args.command.now).commits)) (g.L.CardLink.chip r.inner) (g.L.CardLink.chip c.exchange-outcome.new.self)) c.self.view_is
    c.exchange-outcome.ensures.moments
