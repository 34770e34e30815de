-- The program's sessions, as the model's.
use Rattle.std.specs.Prelude.{◌≡◌, ℕ, ◌==◌, Bool, true, false, List, [], ◌∷◌, map, Option, None, is_some, option_and_then, option_map, slice_get, slice_set, if◌then◌else◌}
use Rattle.std.specs.Option.{option_flatten, option_map_or}
use Rattle.scql_base.specs.declared.cursor.PresentedUser.{PresentedUser}
use Rattle.scql_base.specs.declared.operation.Command.{Command}
use Rattle.scql_model.specs.Form.{Form, refused, refused_on, part_on, a_command}
use Rattle.scql_model.specs.Machine as machine
use Rattle.scql_model.specs.Sessions.{with_part, without_chain}
use Rattle.scql_model.specs.WellFormed.{IsWellFormed}
use Rattle.apdu_chain.specs.Chaining.{taken_of}
use Rattle.apdu_chain.specs.declared.chains.Taken.{Taken}
use Rattle.apdu_chain.specs.declared.chains.Taken.TheVariants.{Whole}
use Rattle.plain_machine.specs.declared.session.Session.{Session}

-- a session with these parts of a command
abbrev pub session_seen : Option machine.Chain → Session → machine.Session
session_seen chain s = record { user = s.user; reading = s.reading; chain = chain }

-- a session that is left, where it presents the user of a stamp
abbrev pub left_session : ℕ → Session → Session
left_session stamp s = if option_map_or (λ (p : PresentedUser). p.stamp == stamp) s.user false then record { user = None; reading = machine.no_reading } else s

-- a session whose user has shown the secret
abbrev pub proved_session : Session → Session
proved_session s = record s { user = option_map (λ (p : PresentedUser). record p { proved = true }) s.user }

-- the sessions of the channels, each with the parts of a command that its channel has so far
abbrev pub sessions_of : List (Option Session) → List (Option machine.Chain) → List (Option machine.Session)
sessions_of [] chains = []
sessions_of (session ∷ sessions) [] = []
sessions_of (session ∷ sessions) (chain ∷ chains) = option_map (session_seen chain) session ∷ sessions_of sessions chains

-- which channels are open
abbrev pub are_open : List (Option machine.Session) → List Bool
are_open sessions = map (λ (s : Option machine.Session). is_some s) sessions

-- the session of a channel, its reading, and its parts of a command
abbrev pub session_on : List (Option machine.Session) → ℕ → Option machine.Session
session_on sessions channel = option_flatten (slice_get sessions channel)

abbrev pub reading_on : List (Option machine.Session) → ℕ → machine.Reading
reading_on sessions channel = option_map_or (λ (s : machine.Session). s.reading) (session_on sessions channel) machine.no_reading

abbrev pub chain_in : List (Option machine.Session) → ℕ → Option machine.Chain
chain_in sessions channel = option_and_then (λ (s : machine.Session). s.chain) (session_on sessions channel)

-- the session of a channel changes, where the channel is open
abbrev pub changed_on : (machine.Session → machine.Session) → List (Option machine.Session) → ℕ → List (Option machine.Session)
changed_on change sessions channel = slice_set sessions channel (option_map change (session_on sessions channel))

-- the sessions after octets were taken: a part is added to its channel's, and a command ends its channel's parts, as does a refusal there
abbrev pub sessions_after : List (Option machine.Session) → Form → List (Option machine.Session)
sessions_after sessions (refused word) = sessions
sessions_after sessions (refused_on channel word) = changed_on without_chain sessions channel
sessions_after sessions (part_on channel kind octets) = changed_on (with_part kind octets) sessions channel
sessions_after sessions (a_command c) = changed_on without_chain sessions c.channel

-- Octets were taken by sessions, as the form that they have.
pub record Takes (form : Form) (old new : List (Option machine.Session)) (result : Taken) (command : Command) : Type 0 where
  -- they are refused, kept, or a whole command
  pub taken : result ≡ taken_of form
  -- the sessions keep a part, and else no part of the channel's command
  pub sessions : new ≡ sessions_after old form
  -- a whole command was read into a place, and is well formed
  pub whole : result ≡ Whole → form ≡ a_command command
  pub formed : result ≡ Whole → IsWellFormed command
