-- The reading commands of the program, as the model's.
use Rattle.scql_model.specs.ReadingCommands as model
use Rattle.plain_reading.specs.declared.commands.ReadingCommand.{ReadingCommand}
use Rattle.plain_reading.specs.declared.commands.ReadingCommand.TheVariants.{Declare, OpenCursor, Next, Fetch, FetchNext, GetResponse}

-- what a command asks for
abbrev pub command_seen : ReadingCommand → model.ReadingCommand
command_seen (Declare object columns conditions) = model.declare object.now columns.now conditions.now
command_seen OpenCursor = model.open_cursor
command_seen Next = model.next
command_seen (Fetch le) = model.fetch le
command_seen (FetchNext le) = model.fetch_next le
command_seen (GetResponse le) = model.get_response le
