-- The program's sessions, as the model's.
use Rattle.std.specs.Prelude.{ℕ, Bool, not, List, [], ◌∷◌, Option, None, is_some, option_map, option_and_then, slice_get, if◌then◌else◌}
use Rattle.std.specs.List.{find}
use Rattle.std.specs.Option.{option_flatten}
use Rattle.scql_base.specs.declared.cursor.Cursor.{Cursor}
use Rattle.scql_model.specs.Machine as machine
use Rattle.card.specs.declared.session.Session.{Session}
pub use Rattle.card.specs.Proved.{presents, proved_stamp, unproved_stamp}

-- what a session reads
abbrev pub reading_in : Session → machine.Reading
reading_in s = record { cursor = s.cursor; pending = s.pending }

-- a session with these parts of a command
abbrev pub session_seen : Option machine.Chain → Session → machine.Session
session_seen chain s = record { user = s.user; reading = reading_in s; chain = chain }

-- the sessions of the channels, each with the parts of a command that its channel has so far
abbrev pub sessions_of : List (Option Session) → List (Option machine.Chain) → List (Option machine.Session)
sessions_of [] chains = []
sessions_of (session ∷ sessions) [] = []
sessions_of (session ∷ sessions) (chain ∷ chains) = option_map (session_seen chain) session ∷ sessions_of sessions chains

-- the stamp of a session's user, where there is one that is proved
abbrev pub proved_user : Option machine.Session → Option ℕ
proved_user session = option_and_then proved_stamp (option_and_then (λ (s : machine.Session). s.user) session)

-- where it isn't proved
abbrev pub unproved_user : Option machine.Session → Option ℕ
unproved_user session = option_and_then unproved_stamp (option_and_then (λ (s : machine.Session). s.user) session)

-- a session of the program is left, where it presents the user of a stamp
abbrev pub left_session : ℕ → Session → Session
left_session stamp s = if presents stamp s.user then record { user = None; cursor = None; pending = [] } else s

-- the session of a channel, and its cursor
abbrev pub session_on : List (Option machine.Session) → ℕ → Option machine.Session
session_on sessions channel = option_flatten (slice_get sessions channel)

abbrev pub cursor_on : List (Option machine.Session) → ℕ → Option Cursor
cursor_on sessions channel = option_and_then (λ (s : machine.Session). s.reading.cursor) (session_on sessions channel)

-- Which channels are open.
abbrev pub is_open : List (Option machine.Session) → ℕ → Bool
is_open sessions channel = is_some (session_on sessions channel)

abbrev pub least_closed : List (Option machine.Session) → Option ℕ
least_closed sessions = find (λ channel. not (is_open sessions channel)) (1 ∷ 2 ∷ 3 ∷ [])
