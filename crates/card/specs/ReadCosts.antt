-- How many octets a reading command reads: at most as many as its bound, and at least as many as the row has that it answers.
use Rattle.std.specs.Prelude.{◌≡◌, ℕ, ◌+◌, Bool, true, false, List, [], ◌∷◌, length, Option, Some, IfSome}
use Rattle.eeprom.specs.Chip.{Becomes, RisesAtMost}
use Rattle.scql_base.specs.declared.cursor.Cursor.{Cursor}
use Rattle.scql_base.specs.declared.operation.Command.{Command}
use Rattle.scql_base.specs.declared.words.Actor.{Actor}
use Rattle.scql_model.specs.Accepting.{channel_named}
use Rattle.scql_model.specs.Database.{Database}
use Rattle.scql_model.specs.Machine.{Machine, Reading, actor, base}
use Rattle.scql_model.specs.Moves.{move_of}
use Rattle.scql_model.specs.ReadBound.{IsOnTableOrView, RisesAtLeast}
use Rattle.scql_model.specs.ReadingCommands.{Move, ReadingCommand, declare, fetch, fetch_next, get_response, next, open_cursor, reading_command}
use Rattle.scql_model.specs.Sessions.{cursor_of, reading_of}
use Rattle.db_read.specs.Searched.{octets_for_operation, octets_for_reading}
use Rattle.card.specs.Showing.{AreReading}

-- a command goes over the rows of a cursor
abbrev pub goes_over_rows : ReadingCommand → Bool
goes_over_rows (declare object columns conditions) = false
goes_over_rows open_cursor = true
goes_over_rows next = true
goes_over_rows (fetch le) = true
goes_over_rows (fetch_next le) = true
goes_over_rows (get_response le) = false

-- a command asks for a row
abbrev pub asks_for_row : ReadingCommand → Bool
asks_for_row (declare object columns conditions) = false
asks_for_row open_cursor = false
asks_for_row next = false
asks_for_row (fetch le) = true
asks_for_row (fetch_next le) = true
asks_for_row (get_response le) = false

-- how many octets a row has of which these are given and those are pending; where none are given there is no row
abbrev pub size_given : List ℕ → List ℕ → ℕ
size_given [] pending = 0
size_given (octet ∷ body) pending = length (octet ∷ body) + length pending

-- how many octets the row has that a move answers
abbrev pub row_answered : Move Reading → ℕ
row_answered move = size_given move.reply.body move.after.pending

-- at most so many octets are read for a command; of one that goes over rows this is said where the cursor is on a table or a view
abbrev pub ReadsWithin : ℕ → Database → Option Cursor → ReadingCommand → Option ℕ → Option ℕ → Type 0
ReadsWithin most db cursor command before after = (goes_over_rows command ≡ true → IfSome cursor (IsOnTableOrView db)) → Becomes (RisesAtMost most) before after

-- where a row of a table or a view is answered, at least as many octets are read as it has
abbrev pub ReadsRow : Database → Option Cursor → ReadingCommand → Move Reading → Option ℕ → Option ℕ → Type 0
ReadsRow db cursor command move before after = asks_for_row command ≡ true → IfSome cursor (IsOnTableOrView db) → Becomes (RisesAtLeast (row_answered move)) before after

-- what is read for a command
pub record ReadsOctets (most : ℕ) (db : Database) (actor : Actor) (reading : Reading) (command : ReadingCommand) (before after : Option ℕ) : Type 0 where
  pub within : ReadsWithin most db reading.cursor command before after
  pub row : ReadsRow db reading.cursor command (move_of db actor reading command) before after

-- for the reading command that a command is, without the search for the actor
abbrev pub OperatesWithin : Database → Actor → Command → Reading → Option ℕ → Option ℕ → Type 0
OperatesWithin db actor c reading before after = (command : ReadingCommand) → reading_command c.operation c.le ≡ Some command
    → ReadsOctets (octets_for_operation db actor reading.cursor command) db actor reading command before after

-- for a reading command on a channel of a machine
abbrev pub ReadsOn : Machine → ℕ → ReadingCommand → Option ℕ → Option ℕ → Type 0
ReadsOn m channel command before after =
    ReadsOctets (octets_for_reading (base m channel) (actor m channel) (cursor_of m channel) command) (base m channel) (actor m channel) (reading_of m channel) command before after

-- for the reading command that a command of a machine is
abbrev pub ReadsFor : Machine → Command → Option ℕ → Option ℕ → Type 0
ReadsFor m c before after = (command : ReadingCommand) → reading_command c.operation c.le ≡ Some command → ReadsOn m c.channel command before after

-- for the reading command that octets are
abbrev pub ReadsAsked : Machine → List ℕ → Option ℕ → Option ℕ → Type 0
ReadsAsked m octets before after = (command : ReadingCommand) → AreReading m octets command → ReadsOn m (channel_named octets) command before after

-- what the clauses of an answer say of it: the bound,
abbrev pub ReadsBound : Machine → List ℕ → Option ℕ → Option ℕ → Type 0
ReadsBound m octets before after = (command : ReadingCommand) → AreReading m octets command
    → (let channel = channel_named octets in
    ReadsWithin (octets_for_reading (base m channel) (actor m channel) (cursor_of m channel) command) (base m channel) (cursor_of m channel) command before after)

-- and the row
abbrev pub ReadsAnswered : Machine → List ℕ → Option ℕ → Option ℕ → Type 0
ReadsAnswered m octets before after = (command : ReadingCommand) → AreReading m octets command
    → (let channel = channel_named octets in
    ReadsRow (base m channel) (cursor_of m channel) command (move_of (base m channel) (actor m channel) (reading_of m channel) command) before after)
