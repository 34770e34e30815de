use Rattle.std.proofs.Common.{[], subst}
use Rattle.scql_base.specs.Words.{memory_failure}
use Rattle.script.specs.Commands.{CanBeSent}
use Rattle.planner.specs.Planned.{Planned}
use Rattle.planner.proofs.Sending.{step-sends}
use Rattle.planner.proofs.plan.Plan.next_into.Goals as goal

pub returns-in-Some-clause-sendable : goal.returns-in-Some-clause-sendable
returns-in-Some-clause-sendable c =
    let P : Planned → Type 0 = λ p. CanBeSent p.channel p.statement in
    step-sends c.args.self.now c.reply.inside.word c.as_slice.result.now (record { plan = c.go_on.new.self; step = c.go_on.new.step }) (subst P c.self.view_is c.self.invariant) c.go_on.ensures

pub returns-in-None-clause-sendable : goal.returns-in-None-clause-sendable
returns-in-None-clause-sendable c =
    let P : Planned → Type 0 = λ p. CanBeSent p.channel p.statement in
    step-sends c.args.self.now memory_failure [] (record { plan = c.go_on-in-None.new.self; step = c.go_on-in-None.new.step }) (subst P c.self.view_is c.self.invariant) c.go_on-in-None.ensures
