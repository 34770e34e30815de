-- What is asked where a command of a channel is carried out.
use Rattle.std.specs.Prelude.{◌≡◌, ℕ, true}
use Rattle.scql_base.specs.declared.operation.Command.{Command}
use Rattle.scql_base.specs.declared.operation.Operation.{Operation}
use Rattle.scql_model.specs.Machine.{Machine}
use Rattle.scql_model.specs.Sessions.{is_channel_open}
use Rattle.scql_model.specs.ValidMachine.{IsValidMachine}
use Rattle.scql_model.specs.WellFormed.{HasForm, IsWellFormed}

-- A machine serves a channel.
pub record IsServed (m : Machine) (channel : ℕ) : Type 0 where
  -- the channel is open
  pub is_open : is_channel_open m channel ≡ true
  -- the machine is valid
  pub valid : IsValidMachine m

-- A machine serves a command's channel.
pub record ServesCommand (m : Machine) (command : Command) : Type 0 where
  pub formed : IsWellFormed command
  pub served : IsServed m command.channel

-- A machine serves a channel, on which an operation is asked for.
pub record ServesOperation (m : Machine) (channel : ℕ) (operation : Operation) : Type 0 where
  pub served : IsServed m channel
  pub formed : HasForm operation
