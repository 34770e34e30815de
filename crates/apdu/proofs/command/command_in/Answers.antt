-- A command is on the channel of its APDU.
use Rattle.std.proofs.Common.{◌≡◌, min, Result, sym, subst}
use Rattle.std.specs.Prelude.{IfOk}
use Rattle.scql_base.specs.declared.operation.Command.{Command}
use Rattle.scql_base.specs.declared.row.TheConstants.Row.{LARGEST}
use Rattle.scql_base.specs.declared.words.StatusWord.{StatusWord}
use Rattle.apdu.proofs.FormsRead.{command_of-channel}
use Rattle.apdu.proofs.command.command_in.Goals as goal

pub returns-clause-channel : goal.returns-clause-channel
returns-clause-channel c =
    subst (λ (read : Result Command StatusWord). IfOk read (λ command. command.channel ≡ c.args.apdu.now.channel)) (sym c.in_ok-read_into.ensures)
    (command_of-channel c.args.apdu.now (min c.args.limit LARGEST) c.args.apdu.now.body.now)
