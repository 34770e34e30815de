-- Which answers accept a command, what they change, and what the others leave.
use Rattle.std.specs.Prelude.{◌≡◌, ◌≢◌, ◌⊎◌, ℕ, ◌%◌, ◌-◌, List, [], ◌∷◌, Some, None, Ok}
use Rattle.scql_base.specs.declared.cursor.Cursor.{Cursor}
use Rattle.scql_base.specs.declared.cursor.Place.TheVariants.{End}
use Rattle.scql_base.specs.declared.cursor.PresentedUser.{PresentedUser}
use Rattle.scql_base.specs.declared.records.User.{User}
use Rattle.scql_base.specs.declared.words.StatusWord.{StatusWord}
use Rattle.scql_base.specs.Words.{done, end_reached, more_left, tries_left}
use Rattle.scql_model.specs.Database.{user_stamped}
use Rattle.scql_model.specs.Replies.{said}
use Rattle.scql_model.specs.Machine.{Machine, Session, base, actor}
use Rattle.scql_model.specs.Sessions.{changing_session, without_chain, cursor_of, user_of}
use Rattle.scql_model.specs.Objects.{StampedRow}
use Rattle.scql_model.specs.Moves.{rows_under, row_behind}
use Rattle.scql_model.specs.Step.{Answer, with_tries}

-- it is done, a cursor came to its end, there is more of an answer, or a secret was wrong and cost a try
pub data Accepts : StatusWord → Type 0 where
  is_done : Accepts done
  at_its_end : Accepts end_reached
  has_more : (n : ℕ) → Accepts (more_left n)
  costs_a_try : (n : ℕ) → Accepts (tries_left n)

-- the channel that the class of a command names
abbrev pub channel_named : List ℕ → ℕ
channel_named [] = 0
channel_named (cla ∷ rest) = cla % 4

-- the machine is as it was, but that this channel may have lost the parts of a command
abbrev pub IsAsBefore : Machine → ℕ → Machine → Type 0
IsAsBefore m channel next = (next ≡ m) ⊎ (next ≡ changing_session without_chain m channel)

-- the answer to these octets accepts, or leaves the machine so and commits nothing
abbrev pub AcceptsOrLeaves : Machine → List ℕ → Answer → Type 0
AcceptsOrLeaves m octets answer = Accepts answer.reply.word ⊎ ((answer.commits ≡ []) × IsAsBefore m (channel_named octets) answer.machine)

-- a session's cursor stands at its end; nothing is pending, and there are no parts of a command
abbrev pub ended_at : Cursor → Session → Session
ended_at c s = record s { reading = record { cursor = Some (record c { place = End }); pending = [] }; chain = None }

-- What 6282 says: there is no row for the channel's cursor, or none behind its place. Of the machine the channel's session alone changes, in
-- its cursor, its pending octets and its chain, and nothing is committed.
pub record EndsCursor (m : Machine) (channel : ℕ) (answer : Answer) : Type 0 where
  pub cursor : Cursor
  pub stood : cursor_of m channel ≡ Some cursor
  pub rows : List StampedRow
  pub listed : rows_under (base m channel) (actor m channel) cursor ≡ Ok rows
  pub none : (rows ≡ []) ⊎ (row_behind cursor.place rows ≡ None)
  pub reply : answer.reply ≡ said end_reached
  pub machine : answer.machine ≡ changing_session (ended_at cursor) m channel
  pub commits : answer.commits ≡ []

-- What 63CX says: the user who is presented on the channel had tries left, and one less is committed. Of the machine the tries of that user
-- alone change, and the channel's chain.
pub record CostsTry (m : Machine) (channel : ℕ) (answer : Answer) : Type 0 where
  pub who : PresentedUser
  pub presented : user_of m channel ≡ Some who
  pub user : User
  pub stored : user_stamped m.committed.users who.stamp ≡ Some user
  pub had_tries : user.tries ≢ 0
  pub reply : answer.reply ≡ said (tries_left (user.tries - 1))
  pub machine : answer.machine ≡ changing_session without_chain (record m { committed = with_tries m.committed user (user.tries - 1) }) channel
  pub commits : answer.commits ≡ with_tries m.committed user (user.tries - 1) ∷ []
