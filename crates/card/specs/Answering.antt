-- What an answer leaves.
use Rattle.std.specs.Prelude.{◌≡◌, ◌==◌, if◌then◌else◌, ℕ, List, [], ◌∷◌, Option, Some, Result, Ok, Err, IfOk, OnOk, option_map, slice_get, slice_set}
use Rattle.std.specs.List.{AllByRecursion}
use Rattle.std.specs.Option.{option_flatten}
use Rattle.eeprom.specs.Chip.{Chip, Becomes, RisesAtMost}
pub use Rattle.record_table.specs.AtRest.{LeavesOneOf}
use Rattle.record_table.specs.AtRest.{LeavesOnce}
use Rattle.scql_model.specs.Database.{Database}
use Rattle.eeprom.specs.declared.EepromFault.{EepromFault}
use Rattle.scql_base.specs.declared.words.StatusWord.{StatusWord}
use Rattle.scql_base.specs.Words.{done}
use Rattle.scql_model.specs.Replies as model
use Rattle.scql_model.specs.Machine.{Machine, Session, session_for}
use Rattle.scql_model.specs.Accepting.{IsAsBefore}
use Rattle.scql_model.specs.Sessions.{without_pending}
use Rattle.scql_model.specs.Step.{Answer, done_with}
use Rattle.card.specs.Card.{Kept, HoldsMachine, IsAt}
use Rattle.scql_base.specs.declared.cursor.PresentedUser.{PresentedUser}

-- the machine's answer is this reply, and card and EEPROM are at its machine
pub record Answers (answer : Answer) (sent : model.Reply) (card : Kept) (chip : Chip) : Type 0 where
  pub reply : sent ≡ answer.reply
  pub at : IsAt card chip answer.machine

-- the machine's answer is this reply, and card and EEPROM hold its machine
pub record HoldsAnswer (answer : Answer) (sent : model.Reply) (card : Kept) (chip : Chip) : Type 0 where
  pub reply : sent ≡ answer.reply
  pub held : HoldsMachine card chip answer.machine

-- each of these databases a power loss may leave at some moment
abbrev pub LeavesEach : List Database → Chip → Chip → Type 0
LeavesEach dbs old new = AllByRecursion (λ (db : Database). LeavesOnce db old new) dbs

-- where an answer commits a second database, so it may the first
abbrev pub LeavesFirstOfTwo : Answer → Chip → Chip → Type 0
LeavesFirstOfTwo answer old new = (first second : Database) (rest : List Database) → answer.commits ≡ first ∷ second ∷ rest → LeavesOnce first old new

-- an answer with this body and word
abbrev pub replied : List ℕ → StatusWord → model.Reply
replied body word = record { body = body; word = word }

-- What a command does to a card and its EEPROM that hold a machine: the machine's answer, with this body, or a device failed. What is answered has
-- written at most so many octets, and nothing where that is none.
pub record Performs (m : Machine) (answer : Answer) (most : ℕ) (body : List ℕ) (result : Result StatusWord EepromFault) (card : Kept) (old new : Chip) : Type 0 where
  pub step : IfOk result (λ word. HoldsAnswer answer (replied body word) card new)
  pub moments : LeavesOneOf (m.committed ∷ answer.commits) old new
  pub unwritten : OnOk result (most ≡ 0 → new ≡ old)
  pub octets : OnOk result (Becomes (RisesAtMost most) old.written new.written)

-- a channel has this session, or none where it is closed
abbrev pub with_session : Kept → ℕ → Option Session → Kept
with_session card channel session = record card { sessions = slice_set card.sessions channel session }

-- a new session of a channel, for this user
abbrev pub with_session_for : Kept → ℕ → Option PresentedUser → Kept
with_session_for card channel user = with_session card channel (Some (session_for user))

-- the session of a channel changes, where the channel is open
abbrev pub changing_session : (Session → Session) → Kept → ℕ → Kept
changing_session change card channel = with_session card channel (option_map change (option_flatten (slice_get card.sessions channel)))

-- what is done leaves nothing pending on its channel
abbrev pub settled : StatusWord → Kept → ℕ → Kept
settled word card channel = if word.word == done.word then changing_session without_pending card channel else card

-- what comes of a change that is committed at once
abbrev pub committed_at_once : Machine → ℕ → Result Database StatusWord → Result Answer StatusWord
committed_at_once m channel (Err word) = Err word
committed_at_once m channel (Ok db) = Ok (done_with (record m { committed = db }) channel (db ∷ []))

-- card and EEPROM are at a machine as it was, but that this channel may have lost the parts of a command
abbrev pub IsAtAsBefore : Kept → Chip → Machine → ℕ → Type 0
IsAtAsBefore card chip m channel = (next : Machine) × IsAsBefore m channel next × IsAt card chip next
