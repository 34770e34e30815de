use Rattle.std.proofs.Common.{◌∷◌, subst}
use Rattle.scql_model.specs.Machine.{Machine}
use Rattle.scql_model.specs.Step.{step}
use Rattle.card_link.specs.Failing.{Failing}
use Rattle.card_link.specs.Link.{IsOneOf, LeavesOpen}
use Rattle.card_link.proofs.failing_link.FailingLinkCardLink.exchange.Goals as goal

pub returns-clause-moments : goal.returns-clause-moments
returns-clause-moments g c =
    subst (λ (f : Failing g.row.L.Denot). (m : Machine) → g.L.CardLink.is_at f.inner m
    → LeavesOpen (IsOneOf (g.L.CardLink.mark f.inner) (m.committed ∷ (step m c.args.command.now).commits)) (g.L.CardLink.chip f.inner) (g.L.CardLink.chip c.exchange.new.self)) c.self.view_is
    c.exchange.ensures.moments
