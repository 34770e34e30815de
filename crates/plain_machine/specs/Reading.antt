-- How a channel reads.
use Rattle.std.specs.Prelude.{◌≡◌, ℕ, true, List, Option, Result, IfSome, OnErr, is_some}
use Rattle.scql_base.specs.declared.words.StatusWord.{StatusWord}
use Rattle.scql_model.specs.Cursors.{IsCursorOf}
use Rattle.scql_model.specs.Database.{Database}
use Rattle.scql_model.specs.Machine as machine
use Rattle.scql_model.specs.ReadingCommands.{Move}
use Rattle.scql_model.specs.Replies.{Reply}
use Rattle.plain_database.specs.Effects.{ended}
use Rattle.plain_machine.specs.Sessions.{reading_on, session_on}

-- What is asked of the sessions where a channel reads or changes a database.
pub record HasCursorOf (db : Database) (sessions : List (Option machine.Session)) (channel : ℕ) : Type 0 where
  -- the channel is open
  pub is_open : is_some (session_on sessions channel) ≡ true
  -- and its cursor, if it has one, is of the database
  pub cursor : IfSome (reading_on sessions channel).cursor (IsCursorOf db)

-- A reading command was carried out, or refused, on a channel of what has sessions. What the channel reads is told of these, and what they are with another reading of it.
pub record ReadsOnChannel {A : Type 0} (reading_of : A → machine.Reading) (with_reading : machine.Reading → A) (old new : A) (reply : Reply) (result : Result (Unit {0}) StatusWord) (meant : Result (Move machine.Reading) StatusWord) : Type 0 where
  -- it gave the reply that is meant and the channel reads what is meant, or it was refused with the word that is meant
  pub moved : (let move : Move machine.Reading = record { reply = reply; after = reading_of new } in ended result move) ≡ meant
  -- nothing but what the channel reads is another
  pub left : new ≡ with_reading (reading_of new)
  -- where it was refused, all is as it was
  pub same : OnErr result (new ≡ old)
