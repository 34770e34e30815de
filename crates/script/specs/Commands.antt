-- The commands that a statement becomes (ISO/IEC 7816-7, the operations of SCQL; ISO/IEC 7816-4, GET RESPONSE and MANAGE CHANNEL).
use Rattle.std.specs.Prelude.{ℕ, ◌≡◌, ◌≤◌, true, List, [], ◌∷◌, Some, None}
use Rattle.std.specs.List.{AllByRecursion}
use Rattle.scql_base.specs.declared.operation.TheConstants.Command.{LAST_CHANNEL, LARGEST_LE}
use Rattle.scql_base.specs.declared.operation.Command.{Command}
use Rattle.scql_base.specs.declared.operation.Operation.{Operation}
use Rattle.scql_base.specs.declared.operation.Operation.TheVariants.{DeclareCursor, OpenCursor, Next, Fetch, FetchNext, GetResponse, Update, Delete, Begin, Commit, Rollback, OpenChannel, CloseChannel}
use Rattle.scql_model.specs.Spelling.{fits}
use Rattle.scql_model.specs.WellFormed.{IsWellFormed}
use Rattle.script.specs.declared.statement.Statement.{Statement}
use Rattle.script.specs.declared.statement.Statement.TheVariants.{Single, Select, UpdateRows, DeleteRows, OpenNumber, CloseNumber, UseNumber}

-- an operation as a command of a channel; where octets are wanted, as many as an answer may have
abbrev pub asking : ℕ → Operation → Command
asking channel operation = record { channel = channel; operation = operation; le = None }

abbrev pub wanting : ℕ → Operation → Command
wanting channel operation = record { channel = channel; operation = operation; le = Some LARGEST_LE }

-- a cursor is declared and opened, rows are fetched by it, and the rest of an answer is asked for
abbrev pub reading_commands : ℕ → Operation → List Command
reading_commands channel cursor = asking channel cursor ∷ asking channel OpenCursor ∷ wanting channel Fetch ∷ wanting channel FetchNext ∷ wanting channel GetResponse ∷ []

-- in a transaction, a cursor is declared and opened, and a change is made at each row in turn
abbrev pub changing_commands : ℕ → Operation → Operation → List Command
changing_commands channel cursor change =
    asking channel Begin ∷ asking channel cursor ∷ asking channel OpenCursor ∷ asking channel change ∷ asking channel Next ∷ asking channel Commit ∷ asking channel Rollback ∷ []

-- All commands that a statement may become on a channel. Channels are opened and closed on channel 0, which is always open.
abbrev pub commands_of : ℕ → Statement → List Command
commands_of channel (Single operation) = asking channel operation ∷ []
commands_of channel (Select object columns conditions) = reading_commands channel (DeclareCursor object columns conditions)
commands_of channel (UpdateRows object changes conditions) = changing_commands channel (DeclareCursor object [] conditions) (Update changes)
commands_of channel (DeleteRows object conditions) = changing_commands channel (DeclareCursor object [] conditions) Delete
commands_of channel (OpenNumber number) = asking 0 (OpenChannel number) ∷ []
commands_of channel (CloseNumber number) = asking 0 (CloseChannel number) ∷ []
commands_of channel statement = []

-- A command can be sent: it is well-formed, and fits.
pub record IsSendable (c : Command) : Type 0 where
  pub formed : IsWellFormed c
  pub fitting : fits c ≡ true

-- the number of a channel with which the terminal goes on
abbrev pub IsOnChannel : Statement → Type 0
IsOnChannel (UseNumber number) = number ≤ LAST_CHANNEL
IsOnChannel statement = Unit {0}

-- Each command that a statement may become on a channel can be sent.
pub record CanBeSent (channel : ℕ) (statement : Statement) : Type 0 where
  pub within : channel ≤ LAST_CHANNEL
  pub number : IsOnChannel statement
  pub commands : AllByRecursion IsSendable (commands_of channel statement)

-- on each channel
abbrev pub CanAlwaysBeSent : Statement → Type 0
CanAlwaysBeSent statement = (channel : ℕ) → channel ≤ LAST_CHANNEL → CanBeSent channel statement
