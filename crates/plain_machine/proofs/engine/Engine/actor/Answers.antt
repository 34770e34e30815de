-- What a channel reads is valid.
use Rattle.scql_model.proofs.ValidSteps.{valid-base}
use Rattle.plain_machine.proofs.engine.Engine.actor.Goals as goal

pub as_valid-requires : goal.as_valid-requires
as_valid-requires c = rw c.base.ensures (valid-base c.args.self.now c.args.channel c.requires).valid
