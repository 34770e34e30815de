-- Well-formed commands: those that can be written. What octets are read as is one, with a row within the card's limit besides.
use Rattle.std.specs.Prelude.{◌≡◌, ℕ, ◌≤◌, true, length, IfSome, is_some}
use Rattle.scql_base.specs.declared.operation.TheConstants.Command.{LAST_CHANNEL, LARGEST_LE, LONGEST_DATA}
use Rattle.scql_base.specs.Row.{row_size}
use Rattle.scql_base.specs.declared.operation.Command.{Command}
use Rattle.scql_base.specs.declared.operation.Operation.{Operation}
use Rattle.scql_base.specs.declared.operation.Operation.TheVariants.{CreateView, Insert}
use Rattle.scql_model.specs.Operations.{WantsLe, is_for_channel, kind_of}
use Rattle.scql_model.specs.Records as records
pub use Rattle.scql_model.specs.Parameters.{HasForm}

-- On a card with this limit a row that is inserted is within it, and a view's conditions are no longer than the data field in which they came.
abbrev pub FitsCard : ℕ → Operation → Type 0
FitsCard limit (Insert table values) = row_size values ≤ limit
FitsCard limit (CreateView name base columns conditions) = length (records.conditions.spell conditions) ≤ LONGEST_DATA
FitsCard limit operation = Unit {0}

-- a command on a channel 0 to 3, and none that closes channel 0; with Le none or 1 to 256, and not none where its operation takes Le alone
pub record IsWellFormed (c : Command) : Type 0 where
  pub channel : c.channel ≤ LAST_CHANNEL
  pub closed : is_for_channel c.channel (kind_of c.operation) ≡ true
  pub le : IfSome c.le (λ le. (1 ≤ le) × (le ≤ LARGEST_LE))
  pub wanted : WantsLe (kind_of c.operation) → is_some c.le ≡ true
  pub form : HasForm c.operation
