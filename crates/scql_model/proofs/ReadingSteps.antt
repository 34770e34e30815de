-- A step that reads answers from what is shown on its channel, and changes what is shown there alone.
use Rattle.std.proofs.Common.{◌≡◌, ℕ, zero, suc, false, List, [], ◌∷◌, Option, Some, None, option_map, Ok, refl, ap, ◌∙◌}
use Rattle.std.specs.Prelude.{slice_get, slice_set, option_and_then}
use Rattle.std.specs.Option.{option_flatten, option_map_or}
use Rattle.std.proofs.lemmas.Option.{none-some}
use Rattle.scql_base.specs.declared.words.Actor.{Actor}
use Rattle.scql_base.specs.declared.words.Actor.TheVariants.{Public}
use Rattle.scql_base.specs.declared.cursor.PresentedUser.{PresentedUser}
use Rattle.scql_base.specs.declared.operation.Command.{Command}
use Rattle.scql_base.specs.declared.operation.Operation.{Operation}
use Rattle.scql_base.specs.declared.operation.Operation.TheVariants.{DeclareCursor, OpenCursor, Next, Fetch, FetchNext, GetResponse}
use Rattle.scql_model.specs.Machine.{Machine, Session, Reading, Transaction, no_reading, session_of, base, actor_of, actor}
use Rattle.scql_model.specs.Sessions.{changing_session, reading_of, reading_so, without_chain, user_of}
use Rattle.scql_model.specs.Transactions.{waits, is_kept_waiting}
use Rattle.scql_model.specs.Operations.{kind_of}
use Rattle.scql_model.specs.ReadingCommands.{ReadingCommand, reading_command}
use Rattle.scql_model.specs.Moves.{move_of}
use Rattle.scql_model.specs.Shown.{Shown, shown, shown_on}
use Rattle.scql_model.specs.Reads.{read_reply, read_next}
use Rattle.scql_model.specs.ReadingLaws.{IsReadable}
use Rattle.scql_model.specs.Step.{Answer, answered, reading_done, carried_out, stepped}
use Rattle.scql_model.specs.Form.{a_command}
use Rattle.scql_model.proofs.ReadingIsShown.{reply-move_of, shown-move_of}

-- the session of a channel that changes, and of another one
changed_there : {A : Type 0} (change : A → A) (xs : List (Option A)) (i : ℕ)
    → option_flatten (slice_get (slice_set xs i (option_map change (option_flatten (slice_get xs i)))) i) ≡ option_map change (option_flatten (slice_get xs i))
changed_there change [] i = refl
changed_there change (x ∷ xs) zero = refl
changed_there change (x ∷ xs) (suc i) = changed_there change xs i

unchanged_elsewhere : {A : Type 0} (y : Option A) (xs : List (Option A)) (i j : ℕ) → (i ≡ j → ⊥) → option_flatten (slice_get (slice_set xs i y) j) ≡ option_flatten (slice_get xs j)
unchanged_elsewhere y [] i j apart = refl
unchanged_elsewhere y (x ∷ xs) zero zero apart = absurd (apart refl)
unchanged_elsewhere y (x ∷ xs) zero (suc j) apart = refl
unchanged_elsewhere y (x ∷ xs) (suc i) zero apart = refl
unchanged_elsewhere y (x ∷ xs) (suc i) (suc j) apart = unchanged_elsewhere y xs i j (λ same. apart (ap suc same))

-- What is shown on a channel is told by its session, the committed database and the transaction.
abbrev user_in : Option Session → Option PresentedUser
user_in session = option_and_then (λ (s : Session). s.user) session

abbrev reading_in : Option Session → Reading
reading_in session = option_map_or (λ (s : Session). s.reading) session no_reading

abbrev shown_in : Machine → ℕ → Option Session → Shown
shown_in m channel session = shown (base m channel) (option_map_or (actor_of (base m channel)) (user_in session) Public) (reading_in session)

-- on another channel it stays
pub shown_on-other : (change : Session → Session) (m : Machine) (channel other : ℕ) → (channel ≡ other → ⊥) → shown_on (changing_session change m channel) other ≡ shown_on m other
unfolding shown_on
shown_on-other change m channel other apart = ap (shown_in m other) (unchanged_elsewhere (option_map change (session_of m channel)) m.sessions channel other apart)

-- a part of a command isn't shown
without_chain-user : (session : Option Session) → user_in (option_map without_chain session) ≡ user_in session
without_chain-user None = refl
without_chain-user (Some s) = refl

without_chain-reading : (session : Option Session) → reading_in (option_map without_chain session) ≡ reading_in session
without_chain-reading None = refl
without_chain-reading (Some s) = refl

module _ (m : Machine) (channel : ℕ) where
  abbrev ended : Machine
  ended = changing_session without_chain m channel

  ended-session : session_of ended channel ≡ option_map without_chain (session_of m channel)
  ended-session = changed_there without_chain m.sessions channel

  pub ended-user : user_of ended channel ≡ user_of m channel
  ended-user = ap user_in ended-session ∙ without_chain-user (session_of m channel)

  pub ended-actor : actor ended channel ≡ actor m channel
  ended-actor = ap (λ (user : Option PresentedUser). option_map_or (actor_of (base m channel)) user Public) (ap user_in ended-session ∙ without_chain-user (session_of m channel))

  pub ended-reading : reading_of ended channel ≡ reading_of m channel
  ended-reading = ap reading_in ended-session ∙ without_chain-reading (session_of m channel)

  pub ended-shown : shown_on ended channel ≡ shown_on m channel
  unfolding shown_on
  ended-shown = ap (λ (actor : Actor). shown (base m channel) actor (reading_of ended channel)) ended-actor ∙ ap (shown (base m channel) (actor m channel)) ended-reading

-- the user of a session stays where its reading changes
reading_so-user : (reading : Reading) (session : Option Session) → user_in (option_map (reading_so reading) session) ≡ user_in session
reading_so-user reading None = refl
reading_so-user reading (Some s) = refl

-- an open channel reads so from then on
shown_on-reading : (m : Machine) (channel : ℕ) (s : Session) (reading : Reading) → session_of m channel ≡ Some s
    → shown_on (changing_session (reading_so reading) m channel) channel ≡ shown (base m channel) (actor m channel) reading
unfolding shown_on
shown_on-reading m channel s reading is =
    let there : session_of (changing_session (reading_so reading) m channel) channel ≡ option_map (reading_so reading) (session_of m channel) = changed_there (reading_so reading) m.sessions channel in
    ap (λ (user : Option PresentedUser). shown (base m channel) (option_map_or (actor_of (base m channel)) user Public) (reading_of (changing_session (reading_so reading) m channel) channel))
    (ap user_in there ∙ reading_so-user reading (session_of m channel))
    ∙ ap (shown (base m channel) (actor m channel)) (ap reading_in there ∙ ap (λ (session : Option Session). reading_in (option_map (reading_so reading) session)) is)

-- Reading.
has_read-reply : (m : Machine) (channel : ℕ) (command : ReadingCommand) → IsReadable (base m channel)
    → (reading_done m channel command).reply ≡ read_reply (shown_on m channel) command
unfolding shown_on
has_read-reply m channel command readable = reply-move_of (base m channel) (actor m channel) (reading_of m channel) command readable

has_read-shown : (m : Machine) (channel : ℕ) (s : Session) (command : ReadingCommand) → session_of m channel ≡ Some s → IsReadable (base m channel)
    → shown_on (reading_done m channel command).machine channel ≡ read_next (shown_on m channel) command
unfolding shown_on
has_read-shown m channel s command is readable =
    shown_on-reading m channel s (move_of (base m channel) (actor m channel) (reading_of m channel) command).after is
    ∙ shown-move_of (base m channel) (actor m channel) (reading_of m channel) command readable

-- reading waits for no transaction
never_waits : (operation : Operation) (le : Option ℕ) (command : ReadingCommand) (t : Option Transaction) (channel : ℕ) → reading_command operation le ≡ Some command
    → is_kept_waiting (waits (kind_of operation)) t channel ≡ false
never_waits operation le command None channel is = refl
never_waits (DeclareCursor object columns conditions) le command (Some t) channel is = refl
never_waits OpenCursor le command (Some t) channel is = refl
never_waits Next le command (Some t) channel is = refl
never_waits Fetch le command (Some t) channel is = refl
never_waits FetchNext le command (Some t) channel is = refl
never_waits GetResponse le command (Some t) channel is = refl
never_waits operation le command (Some t) channel is = absurd (none-some command is)

carried_out-reading : (m : Machine) (c : Command) (command : ReadingCommand) → reading_command c.operation c.le ≡ Some command
    → carried_out m c ≡ Ok (reading_done m c.channel command)
carried_out-reading m c command is = rw (never_waits c.operation c.le command m.transaction c.channel is, is) refl

pub stepped-reading : (m : Machine) (c : Command) (command : ReadingCommand) → reading_command c.operation c.le ≡ Some command
    → stepped m (a_command c) ≡ reading_done (ended m c.channel) c.channel command
stepped-reading m c command is = ap (answered (ended m c.channel)) (carried_out-reading (ended m c.channel) c command is)

-- The step of a reading command on an open channel.
pub stepped-reply : (m : Machine) (c : Command) (command : ReadingCommand) → reading_command c.operation c.le ≡ Some command → IsReadable (base m c.channel)
    → (stepped m (a_command c)).reply ≡ read_reply (shown_on m c.channel) command
stepped-reply m c command is readable =
    ap (λ (answer : Answer). answer.reply) (stepped-reading m c command is)
    ∙ (has_read-reply (ended m c.channel) c.channel command readable
    ∙ ap (λ (s : Shown). read_reply s command) (ended-shown m c.channel))

pub stepped-shown : (m : Machine) (c : Command) (s : Session) (command : ReadingCommand) → reading_command c.operation c.le ≡ Some command → session_of m c.channel ≡ Some s
    → IsReadable (base m c.channel) → shown_on (stepped m (a_command c)).machine c.channel ≡ read_next (shown_on m c.channel) command
stepped-shown m c s command is there readable =
    ap (λ (answer : Answer). shown_on answer.machine c.channel) (stepped-reading m c command is)
    ∙ (has_read-shown (ended m c.channel) c.channel (without_chain s) command (ended-session m c.channel ∙ ap (option_map without_chain) there) readable
    ∙ ap (λ (s : Shown). read_next s command) (ended-shown m c.channel))

pub stepped-others : (m : Machine) (c : Command) (command : ReadingCommand) (other : ℕ) → reading_command c.operation c.le ≡ Some command → (c.channel ≡ other → ⊥)
    → shown_on (stepped m (a_command c)).machine other ≡ shown_on m other
stepped-others m c command other is apart =
    ap (λ (answer : Answer). shown_on answer.machine other) (stepped-reading m c command is)
    ∙ (shown_on-other (reading_so (move_of (base m c.channel) (actor (ended m c.channel) c.channel) (reading_of (ended m c.channel) c.channel) command).after) (ended m c.channel) c.channel other apart
    ∙ shown_on-other without_chain m c.channel other apart)
