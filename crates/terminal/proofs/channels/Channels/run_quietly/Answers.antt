use Rattle.std.proofs.Common.{◌≡◌, ◌∷◌, Some, ap, subst, sym, rules}
use Rattle.scql_model.specs.Machine.{Machine}
use Rattle.card_link.specs.Link.{IsOneOf, LeavesOpen}
use Rattle.planner.specs.Meaning.{meaning}
use Rattle.planner.specs.Running.{Ran}
use Rattle.card_asking.specs.Following.{IsEnded}
use Rattle.terminal.specs.Holding.{Knows, holding_after}
use Rattle.terminal.proofs.Ended.{sits-after}
use Rattle.terminal.proofs.Meant.{started-meant}
use Rattle.terminal.proofs.channels.Channels.run_quietly.Goals.{After-carry_out}
use Rattle.terminal.proofs.channels.Channels.run_quietly.Goals as goal

-- the moments of the plan's run are those of its meaning
run-leaves : (g : _) (c : After-carry_out g) (m : Machine) → g.L.CardLink.is_at c.args.link.now m → Knows c.args.self.now.transaction m
    → LeavesOpen (IsOneOf (g.L.CardLink.mark c.args.link.now) (m.committed ∷ (meaning m c.args.self.now.channel c.args.plan.now.statement).commits)) (g.L.CardLink.chip c.args.link.now) (g.L.CardLink.chip c.carry_out.new.link)
run-leaves g c m at knows =
    subst (λ (ran : Ran). LeavesOpen (IsOneOf (g.L.CardLink.mark c.args.link.now) (m.committed ∷ ran.commits)) (g.L.CardLink.chip c.args.link.now) (g.L.CardLink.chip c.carry_out.new.link))
    (started-meant m c.args.self.now c.args.plan.now (g.met.L.CardLink.valid c.args.link.now m at) (search rules) c.requires.started knows)
    (c.carry_out.ensures.runs m at).moments

pub returns-in-Ok-clause-ended : goal.returns-in-Ok-clause-ended
returns-in-Ok-clause-ended g c = λ m at knows.
    let before = c.args.self.now in
    let over = subst (λ (ran : Ran). IsEnded g.L.CardLink.is_at ran c.in-Ok.closing c.carry_out.new.link)
    (started-meant m before c.args.plan.now (g.met.L.CardLink.valid c.args.link.now m at) (search rules) c.requires.started knows) (c.in-Ok.ensures.runs m at).over in
    let holds : c.go_on.new.self ≡ holding_after c.args.plan.now.statement c.in-Ok.closing before = search rules in
    record {
      ends = (ap Some (sym over.closes), sits-after g.L.CardLink.is_at m before c.args.plan.now.statement c.in-Ok.closing c.go_on.new.self c.carry_out.new.link (search rules) knows holds over.closes over.at);
      moments = run-leaves g (goal.at.returns-in-Ok-clause-ended g c).After-carry_out m at knows;
    }

pub returns-in-Err-clause-ended : goal.returns-in-Err-clause-ended
returns-in-Err-clause-ended g c = λ m at knows. record { ends = tt; moments = run-leaves g (goal.at.returns-in-Err-clause-ended g c).After-carry_out m at knows }
