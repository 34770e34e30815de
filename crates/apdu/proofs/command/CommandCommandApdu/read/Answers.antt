-- What is read is well-formed.
use Rattle.std.proofs.Common.{min, arith, ap, sym, ◌∙◌}
use Rattle.scql_base.specs.declared.row.TheConstants.Row.{LARGEST}
use Rattle.scql_model.specs.Operations.{operations}
use Rattle.scql_model.specs.Form.{as_command, no_chain}
use Rattle.scql_model.proofs.FormedCommands.{IsWellFormed-as_command, sound-operations}
use Rattle.apdu.proofs.command.CommandCommandApdu.read.Goals as goal

pub returns-in-Ok-clause-formed : goal.returns-in-Ok-clause-formed
returns-in-Ok-clause-formed c =
    IsWellFormed-as_command operations c.args.octets.now c.args.channels no_chain (min c.args.limit LARGEST) c.command_in.result sound-operations
    (λ i. omega (arith, c.type_inv.octets i)) (omega arith) (c.command_in.ensures.command ∙ ap as_command (sym (c.in-Ok.ensures.form no_chain (min c.args.limit LARGEST))))
