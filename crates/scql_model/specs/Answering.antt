-- Exactly when 6282 and 63CX are answered (ISO/IEC 7816-4, status words), and when VERIFY has the right secret.
use Rattle.std.specs.Prelude.{◌≡◌, ◌≢◌, ℕ, false, true, List, [], Some, None, Ok}
use Rattle.std.specs.Str.{bytes_eq}
use Rattle.scql_base.specs.declared.cursor.Cursor.{Cursor}
use Rattle.scql_base.specs.declared.cursor.Place.{Place}
use Rattle.scql_base.specs.declared.cursor.Place.TheVariants.{End}
use Rattle.scql_base.specs.declared.cursor.PresentedUser.{PresentedUser}
use Rattle.scql_base.specs.declared.records.User.{User}
use Rattle.scql_base.specs.declared.operation.Command.{Command}
use Rattle.scql_base.specs.declared.operation.Operation.TheVariants.{Verify}
use Rattle.scql_base.specs.declared.words.StatusWord.{StatusWord}
use Rattle.scql_base.specs.Words.{tries_left}
use Rattle.scql_model.specs.Database.{user_stamped}
use Rattle.scql_model.specs.Machine.{Machine, open_channels, base, actor}
use Rattle.scql_model.specs.Operations.{operations}
use Rattle.scql_model.specs.Sessions.{command_chain, cursor_of, user_of}
use Rattle.scql_model.specs.Form.{a_command, form_of}
use Rattle.scql_model.specs.Objects.{StampedRow}
use Rattle.scql_model.specs.ReadingCommands.{ReadingCommand, declare, open_cursor, next, fetch, fetch_next, get_response, reading_command}
use Rattle.scql_model.specs.Moves.{is_opened, rows_under, row_behind}

-- 63CX: a secret was wrong, and so many tries are left
abbrev pub IsTriesLeft : StatusWord → Type 0
IsTriesLeft word = (n : ℕ) × (word ≡ tries_left n)

-- octets are a command on a machine, of which this is so
pub record AreCommand (m : Machine) (octets : List ℕ) (IsSo : Machine → Command → Type 0) : Type 0 where
  pub command : Command
  pub read : form_of operations octets (open_channels m) (command_chain m) m.committed.limit ≡ a_command command
  pub is : IsSo m command

-- an opened cursor at a place has no row behind it
pub record HasNoneBehind (place : Place) (rows : List StampedRow) : Type 0 where
  pub opened : is_opened place ≡ true
  pub none : row_behind place rows ≡ None

-- OPEN finds no row at all, NEXT and FETCH NEXT none behind the cursor's place, and FETCH none where the cursor is at its end. No other
-- command looks for a row.
abbrev pub FindsNone : ReadingCommand → Place → List StampedRow → Type 0
FindsNone (declare object columns conditions) place rows = ⊥
FindsNone open_cursor place rows = rows ≡ []
FindsNone next place rows = HasNoneBehind place rows
FindsNone (fetch le) place rows = place ≡ End
FindsNone (fetch_next le) place rows = HasNoneBehind place rows
FindsNone (get_response le) place rows = ⊥

-- A command reads through the cursor of its channel, whose rows the actor may read, and finds none.
pub record ComesToEnd (m : Machine) (c : Command) : Type 0 where
  pub reading : ReadingCommand
  pub reads : reading_command c.operation c.le ≡ Some reading
  pub cursor : Cursor
  pub stood : cursor_of m c.channel ≡ Some cursor
  pub rows : List StampedRow
  pub listed : rows_under (base m c.channel) (actor m c.channel) cursor ≡ Ok rows
  pub none : FindsNone reading cursor.place rows

-- A command is VERIFY outside of every transaction, a user is presented on its channel who isn't proved yet and has tries left, and the
-- secret is another one than the user's.
pub record ComparesWrong (m : Machine) (c : Command) : Type 0 where
  pub secret : List ℕ
  pub verifies : c.operation ≡ Verify secret
  pub outside : m.transaction ≡ None
  pub who : PresentedUser
  pub presented : user_of m c.channel ≡ Some who
  pub unproved : who.proved ≡ false
  pub user : User
  pub stored : user_stamped m.committed.users who.stamp ≡ Some user
  pub had_tries : user.tries ≢ 0
  pub wrong : bytes_eq secret user.secret ≡ false

-- A command is VERIFY outside of every transaction, the user of a stamp is presented on its channel who isn't proved yet and has tries left,
-- and the secret is the user's.
pub record ComparesRight (stamp : ℕ) (m : Machine) (c : Command) : Type 0 where
  pub secret : List ℕ
  pub verifies : c.operation ≡ Verify secret
  pub outside : m.transaction ≡ None
  pub who : PresentedUser
  pub presented : user_of m c.channel ≡ Some who
  pub stamped : who.stamp ≡ stamp
  pub unproved : who.proved ≡ false
  pub user : User
  pub stored : user_stamped m.committed.users who.stamp ≡ Some user
  pub had_tries : user.tries ≢ 0
  pub right : bytes_eq secret user.secret ≡ true
