-- A channel without the transaction reads what is committed.
use Rattle.std.proofs.Common.{rules, sym}
use Rattle.plain_reading.specs.Commands.{command_seen}
use Rattle.plain_machine.proofs.ReadMachines.{moved-committed}
use Rattle.plain_machine.proofs.engine.Engine.read_base.Goals as goal

pub returns-else-has_transaction : goal.returns-else-has_transaction
returns-else-has_transaction c = record {
  moved = moved-committed c.self.inside.committed c.self.inside.working c.self.inside.transaction c.self.inside.sessions c.args.channel c.args.self.now c.actor-actor.result (command_seen c.args.command.now) _
      c.self.view_is (sym c.if-has_transaction.ensures) c.actor-actor.ensures (rw c.as_valid-database-else-has_transaction.ensures at c.read-else-has_transaction.ensures.moved);
  left = search rules;
  same = search rules;
}
