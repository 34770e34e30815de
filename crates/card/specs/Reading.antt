-- What a reading command makes of a session and the reply.
use Rattle.std.specs.Prelude.{◌≡◌, ℕ, Bool, true, false, List, Option, Some}
use Rattle.scql_base.specs.declared.cursor.Cursor.{Cursor}
use Rattle.scql_base.specs.declared.operation.Command.{Command}
use Rattle.scql_base.specs.declared.operation.OperationKind.{OperationKind}
use Rattle.scql_base.specs.declared.operation.OperationKind.TheVariants.{DeclareCursor, OpenCursor, Next, Fetch, FetchNext, GetResponse}
use Rattle.scql_base.specs.declared.words.Actor.{Actor}
use Rattle.scql_base.specs.declared.words.StatusWord.{StatusWord}
use Rattle.scql_model.specs.Database.{Database}
use Rattle.scql_model.specs.Machine.{Reading}
use Rattle.scql_model.specs.Moves.{move_of}
use Rattle.scql_model.specs.ReadingCommands.{Move, ReadingCommand, reading_command}
use Rattle.card.specs.Answering.{replied}

-- the operations that read
abbrev pub is_reading : OperationKind → Bool
is_reading DeclareCursor = true
is_reading OpenCursor = true
is_reading Next = true
is_reading Fetch = true
is_reading FetchNext = true
is_reading GetResponse = true
is_reading kind = false

-- a reply with this body and word, and what is read then
abbrev pub move_to : List ℕ → StatusWord → Option Cursor → List ℕ → Move Reading
move_to body word cursor pending = record { reply = replied body word; after = record { cursor = cursor; pending = pending } }

-- the reading command that a command is moves so
abbrev pub MovesSo : Database → Actor → Command → Reading → Move Reading → Type 0
MovesSo db actor c before move = (command : ReadingCommand) → reading_command c.operation c.le ≡ Some command → move_of db actor before command ≡ move
