-- The table machine: the committed database, a transaction or none, and what is kept for each of four channels.
use Rattle.std.specs.Prelude.{ℕ, ◌==◌, Bool, List, [], ◌∷◌, map, Option, Some, None, is_some, option_and_then, slice_get, if◌then◌else◌}
use Rattle.std.specs.Option.{option_flatten, option_map_or}
use Rattle.scql_base.specs.declared.words.Actor.{Actor}
use Rattle.scql_base.specs.declared.words.Actor.TheVariants.{Public, User as a_user}
use Rattle.scql_base.specs.declared.cursor.Cursor.{Cursor}
use Rattle.scql_base.specs.declared.cursor.PresentedUser.{PresentedUser}
use Rattle.scql_base.specs.declared.operation.OperationKind.{OperationKind}
use Rattle.scql_base.specs.declared.records.User.{User}
use Rattle.scql_model.specs.Database.{Database, user_stamped}

-- what reading changes of a session: its cursor, and the octets that are left of an answer
pub record Reading : Type 0 where
  pub cursor : Option Cursor
  pub pending : List ℕ

-- the parts so far of a command that comes in parts
pub record Chain : Type 0 where
  pub operation : OperationKind
  pub parts : List (List ℕ)

pub record Session : Type 0 where
  pub user : Option PresentedUser
  pub reading : Reading
  pub chain : Option Chain

-- an open transaction: its channel, the database as it has changed it, and the stamps of the records that it touched, the counter's being 0
pub record Transaction : Type 0 where
  pub channel : ℕ
  pub working : Database
  pub touched : List ℕ

-- there are four sessions, one for each channel; a channel without one isn't open
pub record Machine : Type 0 where
  pub committed : Database
  pub transaction : Option Transaction
  pub sessions : List (Option Session)

-- nothing is read
abbrev pub no_reading : Reading
no_reading = record { cursor = None; pending = [] }

-- the session of a user, or of nobody
abbrev pub session_for : Option PresentedUser → Session
session_for user = record { user = user; reading = no_reading; chain = None }

abbrev pub new_session : Session
new_session = session_for None

-- channel 0 alone is open, without a user
abbrev pub start : Database → Machine
start db = record { committed = db; transaction = None; sessions = Some new_session ∷ None ∷ None ∷ None ∷ [] }

-- the card is reset: its transaction is undone and all sessions end
abbrev pub reset : Machine → Machine
reset m = start m.committed

abbrev pub open_channels : Machine → List Bool
open_channels m = map (λ (s : Option Session). is_some s) m.sessions

abbrev pub session_of : Machine → ℕ → Option Session
session_of m channel = option_flatten (slice_get m.sessions channel)

-- what a channel reads and changes: the working database where the transaction is its own, else the committed one
abbrev pub base_of : Option Transaction → Database → ℕ → Database
base_of None committed channel = committed
base_of (Some t) committed channel = if t.channel == channel then t.working else committed

abbrev pub base : Machine → ℕ → Database
base m channel = base_of m.transaction m.committed channel

-- for whom a channel acts: the presented user where proved, else PUBLIC
abbrev pub actor_of : Database → PresentedUser → Actor
actor_of db p =
    if p.proved then option_map_or (λ (u : User). a_user u.stamp u.profile) (user_stamped db.users p.stamp) Public else Public

abbrev pub actor : Machine → ℕ → Actor
actor m channel =
    option_map_or (actor_of (base m channel)) (option_and_then (λ (s : Session). s.user) (session_of m channel)) Public
