-- The changes of a plan that can be sent are those of one command.
use Rattle.std.proofs.Common.{◌≡◌, subst, rules}
use Rattle.std.proofs.lemmas.Bool.{leb-true}
use Rattle.script.specs.Commands.{CanBeSent}
use Rattle.script.specs.declared.statement.Statement.{Statement}
use Rattle.script.specs.declared.statement.Statement.TheVariants.{UpdateRows}
use Rattle.planner.proofs.plan.Plan.change.Goals as goal

pub put_update-requires : goal.put_update-requires
put_update-requires c =
    let is : c.args.self.now.statement ≡ UpdateRows c.in-Some-UpdateRows.field-0-0 c.in-Some-UpdateRows.changes c.in-Some-UpdateRows.field-0-2 = search rules in
    let sendable = subst (λ (s : Statement). CanBeSent c.args.self.now.channel s) is c.statement.ensures.sendable in
    record { fits = leb-true _ 1275 sendable.commands.1.1.1.0.fitting }
