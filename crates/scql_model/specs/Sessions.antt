-- What commands make of sessions.
use Rattle.std.specs.Prelude.{◌≡◌, ℕ, ◌==◌, not, Bool, true, false, List, [], ◌∷◌, ◌++◌, length, map, Option, Some, None, option_map, option_and_then, is_some, slice_set, IfSome, if◌then◌else◌}
use Rattle.std.specs.List.{find, AllByRecursion}
use Rattle.std.specs.Option.{option_map_or}
use Rattle.scql_base.specs.declared.cursor.Cursor.{Cursor}
use Rattle.scql_base.specs.declared.cursor.PresentedUser.{PresentedUser}
use Rattle.scql_base.specs.declared.operation.OperationKind.{OperationKind}
use Rattle.scql_base.specs.declared.records.User.{User}
use Rattle.scql_model.specs.Machine.{Machine, Reading, Session, Chain, no_reading, session_for, session_of}
use Rattle.scql_model.specs.Form.{parts_of}

-- a channel has this session, or none where it is closed
abbrev pub with_session : Machine → ℕ → Option Session → Machine
with_session m channel session = record m { sessions = slice_set m.sessions channel session }

-- the session of a channel changes, where the channel is open
abbrev pub changing_session : (Session → Session) → Machine → ℕ → Machine
changing_session change m channel = with_session m channel (option_map change (session_of m channel))

-- The parts of a command that a channel has so far.
abbrev pub command_chain : Machine → ℕ → Option Chain
command_chain m channel = option_and_then (λ (s : Session). s.chain) (session_of m channel)

abbrev pub without_chain : Session → Session
without_chain s = record s { chain = None }

-- one part more; a part of another operation begins a new chain
abbrev pub with_part : OperationKind → List ℕ → Session → Session
with_part kind octets s = record s { chain = Some (record { operation = kind; parts = parts_of kind s.chain ++ octets ∷ [] }) }

-- What a channel reads.
abbrev pub reading_of : Machine → ℕ → Reading
reading_of m channel = option_map_or (λ (s : Session). s.reading) (session_of m channel) no_reading

abbrev pub cursor_of : Machine → ℕ → Option Cursor
cursor_of m channel = (reading_of m channel).cursor

abbrev pub reading_so : Reading → Session → Session
reading_so reading s = record s { reading = reading }

-- nothing is pending; the cursor stays
abbrev pub without_pending : Session → Session
without_pending s = reading_so (record { cursor = s.reading.cursor; pending = [] }) s

-- the cursor goes, and with it what is pending
abbrev pub without_cursor : Session → Session
without_cursor s = reading_so no_reading s

-- The user of a channel.
abbrev pub user_of : Machine → ℕ → Option PresentedUser
user_of m channel = option_and_then (λ (s : Session). s.user) (session_of m channel)

-- a user is presented, proved where the secret is empty
abbrev pub presented : User → PresentedUser
presented u = record { stamp = u.stamp; proved = length u.secret == 0 }

-- the user has shown the secret
abbrev pub proving : Session → Session
proving s = record s { user = option_map (λ (p : PresentedUser). record p { proved = true }) s.user }

-- the user of a stamp is presented in a session
abbrev pub is_of_user : ℕ → Session → Bool
is_of_user stamp s = option_map_or (λ (p : PresentedUser). p.stamp == stamp) s.user false

-- such a session has neither user nor cursor any more
abbrev pub left_by : ℕ → Session → Session
left_by stamp s = if is_of_user stamp s then without_cursor (record s { user = None }) else s

abbrev pub without_user : Machine → ℕ → Machine
without_user m stamp = record m { sessions = map (option_map (left_by stamp)) m.sessions }

-- Which channels are open.
abbrev pub is_channel_open : Machine → ℕ → Bool
is_channel_open m channel = is_some (session_of m channel)

abbrev pub least_closed : Machine → Option ℕ
least_closed m = find (λ channel. not (is_channel_open m channel)) (1 ∷ 2 ∷ 3 ∷ [])

-- a session that keeps nothing but its user
abbrev pub IsIdle : Session → Type 0
IsIdle s = s ≡ session_for s.user

abbrev pub AreIdle : List (Option Session) → Type 0
AreIdle sessions = AllByRecursion (λ (s : Option Session). IfSome s IsIdle) sessions
