-- What ties the answers of reading commands to what is shown.
use Rattle.std.specs.Prelude.{◌≡◌, ℕ, true, List, [], ◌∷◌, map, Some}
use Rattle.eeprom.specs.Slots.{Rises}
use Rattle.scql_base.specs.declared.words.Actor.{Actor}
use Rattle.scql_base.specs.declared.records.User.{User}
use Rattle.scql_base.specs.declared.records.Object.{Object}
use Rattle.scql_base.specs.declared.records.Grant.{Grant}
use Rattle.scql_base.specs.declared.records.RowRecord.{RowRecord}
use Rattle.scql_base.specs.declared.operation.Command.{Command}
use Rattle.scql_model.specs.Replies.{Reply}
use Rattle.scql_model.specs.Database.{Database, are_different}
use Rattle.scql_model.specs.Machine.{Machine, Reading}
use Rattle.scql_model.specs.ReadingCommands.{ReadingCommand, reading_command}
use Rattle.scql_model.specs.Moves.{move_of}
use Rattle.scql_model.specs.Shown.{Shown, shown_on}
use Rattle.scql_model.specs.Reads.{read_reply, read_next}
use Rattle.scql_model.specs.Step.{Answer}

-- what reading needs of a database: objects have different names, and each list stands in rising order of its stamps
pub record IsReadable (db : Database) : Type 0 where
  pub names : are_different (map (λ (o : Object). o.name) db.objects) ≡ true
  pub objects : Rises (λ (o : Object). o.stamp) db.objects
  pub users : Rises (λ (u : User). u.stamp) db.users
  pub grants : Rises (λ (g : Grant). g.stamp) db.grants
  pub rows : Rises (λ (r : RowRecord). r.stamp) db.rows

-- the answers to reading commands in turn, and the cursor and pending octets after them
abbrev pub replies_to : Database → Actor → Reading → List ReadingCommand → List Reply
replies_to db actor reading [] = []
replies_to db actor reading (command ∷ commands) = (move_of db actor reading command).reply ∷ replies_to db actor (move_of db actor reading command).after commands

abbrev pub reading_after : Database → Actor → Reading → List ReadingCommand → Reading
reading_after db actor reading [] = reading
reading_after db actor reading (command ∷ commands) = reading_after db actor (move_of db actor reading command).after commands

-- the same from what is shown alone
abbrev pub read_replies : Shown → List ReadingCommand → List Reply
read_replies s [] = []
read_replies s (command ∷ commands) = read_reply s command ∷ read_replies (read_next s command) commands

abbrev pub shown_after : Shown → List ReadingCommand → Shown
shown_after s [] = s
shown_after s (command ∷ commands) = shown_after (read_next s command) commands

-- a command is this reading command
abbrev pub IsReadingCommand : ReadingCommand → Machine → Command → Type 0
IsReadingCommand reading m c = reading_command c.operation c.le ≡ Some reading

-- An answer to a reading command on a channel follows from what is shown there, and so does what is shown there afterwards. On every other
-- channel is shown what was, the committed database and the transaction stay, and nothing is committed.
pub record ReadsWhatIsShown (m : Machine) (channel : ℕ) (reading : ReadingCommand) (answer : Answer) : Type 0 where
  pub reply : answer.reply ≡ read_reply (shown_on m channel) reading
  pub after : shown_on answer.machine channel ≡ read_next (shown_on m channel) reading
  pub others : (other : ℕ) → ¬ (channel ≡ other) → shown_on answer.machine other ≡ shown_on m other
  pub committed : answer.machine.committed ≡ m.committed
  pub transaction : answer.machine.transaction ≡ m.transaction
  pub commits : answer.commits ≡ []
