-- The engine's machine is that after the step, which goes by nothing that is touched.
use Rattle.std.proofs.Common.{ap, arith, subst, sym, ◌∙◌}
use Rattle.scql_model.specs.Machine.{Machine}
use Rattle.scql_model.specs.ReadingCommands.{Move}
use Rattle.scql_model.specs.Step.{Answer, step}
use Rattle.scql_model.specs.ValidMachine.{IsValidMachine}
use Rattle.scql_model.proofs.ValidSteps.{IsValidAnswer-step}
use Rattle.scql_model.proofs.WithoutTouched.{step-without_touched}
use Rattle.plain_machine.proofs.ValidMachines.{IsValidMachine-without_touched}
use Rattle.plain_machine.proofs.machine.PlainMachine.step.Goals as goal

pub invariant_of-self : goal.invariant_of-self
invariant_of-self c =
    subst IsValidMachine (sym (ap (λ (move : Move Machine). move.after) c.step.ensures))
    (IsValidMachine-without_touched (step c.self.inside.engine c.args.octets.now).machine (IsValidAnswer-step c.self.inside.engine c.args.octets.now (λ i. omega (arith, c.type_inv.octets i)) c.self.invariant).machine)

pub returns-clause-reply : goal.returns-clause-reply
returns-clause-reply c = λ m stands.
    ap (λ (move : Move Machine). move.reply) c.step.ensures
    ∙ sym (ap (λ (answer : Answer). answer.reply) (step-without_touched m c.self.inside.engine c.args.octets.now (stands ∙ sym c.self.view_is)))

pub returns-clause-machine : goal.returns-clause-machine
returns-clause-machine c = λ m stands.
    ap (λ (answer : Answer). answer.machine) (step-without_touched m c.self.inside.engine c.args.octets.now (stands ∙ sym c.self.view_is))
    ∙ sym (ap (λ (move : Move Machine). move.after) c.step.ensures)
