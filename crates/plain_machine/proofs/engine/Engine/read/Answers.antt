-- The machine is left as the move leaves it.
use Rattle.plain_reading.specs.Commands.{command_seen}
use Rattle.plain_machine.proofs.ReadMachines.{read-moved, read-refused}
use Rattle.plain_machine.proofs.engine.Engine.read.Goals as goal

pub returns-in-Err : goal.returns-in-Err
returns-in-Err c =
    read-refused c.args.self.now c.read_base.new.self c.args.channel (command_seen c.args.command.now) c.read_base.ensures.left c.in-Err.word c.say.new.reply c.in-Err.ensures.moved c.in-Err.ensures.same c.say.ensures

pub returns-in_default : goal.returns-in_default
returns-in_default c = read-moved c.args.self.now c.read_base.new.self c.args.channel (command_seen c.args.command.now) c.read_base.ensures.left c.read_base.new.reply c.in_default.ensures.moved
