-- The answer to a command that reads.
use Rattle.std.proofs.Common.{◌≡◌, ℕ, zero, suc, Bool, true, false, List, [], ◌∷◌, length, map, Option, Some, None, is_some, refl, ◌∙◌, ap, arith}
use Rattle.std.specs.Prelude.{slice_get, slice_set, option_and_then}
use Rattle.std.specs.Option.{option_flatten, option_map_or}
use Rattle.std.proofs.lemmas.Bool.{leb-true}
use Rattle.std.proofs.lemmas.Option.{none-some}
use Rattle.scql_base.specs.declared.words.Actor.{Actor}
use Rattle.scql_base.specs.declared.words.Actor.TheVariants.{Public}
use Rattle.scql_base.specs.declared.operation.Command.{Command}
use Rattle.scql_base.specs.declared.operation.Operation.{Operation}
use Rattle.scql_base.specs.declared.operation.Operation.TheVariants.{DeclareCursor, OpenCursor, Next, Fetch, FetchNext, GetResponse}
use Rattle.scql_model.specs.Machine.{Machine, Session, Reading, no_reading, session_of, open_channels, base, actor_of, actor}
use Rattle.scql_model.specs.Sessions.{with_session, changing_session, command_chain, reading_of, reading_so, without_chain}
use Rattle.scql_model.specs.Operations.{operations, comes_in_parts, kind_of, has_secrets}
use Rattle.scql_model.specs.Form.{a_command}
use Rattle.scql_model.specs.Spelling.{IsTaken, octets_of, part_count, field_of, fits}
use Rattle.scql_model.specs.ReadingCommands.{ReadingCommand, reading_command, Move}
use Rattle.scql_model.specs.Moves.{move_of}
use Rattle.scql_model.specs.Step.{Answer, stepped, step}
use Rattle.scql_model.proofs.CommandsAgain.{command-again}
use Rattle.scql_model.proofs.PartsAgain.{part-one, parts_some, parts_least}
use Rattle.scql_model.proofs.LinesFound.{HasLine-operations}
use Rattle.scql_model.proofs.ReadFits.{no_parts}
use Rattle.scql_model.proofs.ReadingSteps.{ended-actor, ended-reading, stepped-reading}
use Rattle.scql_model.proofs.ChangingSessions.{changing_session-set}
use Rattle.script.specs.Commands.{IsSendable}
use Rattle.planner.specs.Meaning.{answer_to}

-- the session of a channel that was set
pub set-there : {A : Type 0} (xs : List (Option A)) (i : ℕ) (x y : A) → option_flatten (slice_get xs i) ≡ Some x → option_flatten (slice_get (slice_set xs i (Some y)) i) ≡ Some y
set-there [] i x y is = absurd (none-some x is)
set-there (first ∷ xs) zero x y is = refl
set-there (first ∷ xs) (suc i) x y is = set-there xs i x y is

pub open-there : {A : Type 0} (xs : List (Option A)) (i : ℕ) (x : A) → option_flatten (slice_get xs i) ≡ Some x → slice_get (map (λ (s : Option A). is_some s) xs) i ≡ Some true
open-there [] i x is = absurd (none-some x is)
open-there (None ∷ xs) zero x is = absurd (none-some x is)
open-there (Some y ∷ xs) zero x is = refl
open-there (first ∷ xs) (suc i) x is = open-there xs i x is

-- no reading command comes in parts
no-part : (operation : Operation) (le : Option ℕ) (command : ReadingCommand) → reading_command operation le ≡ Some command → comes_in_parts (kind_of operation) ≡ false
no-part (DeclareCursor object columns conditions) le command is = refl
no-part OpenCursor le command is = refl
no-part Next le command is = refl
no-part Fetch le command is = refl
no-part FetchNext le command is = refl
no-part GetResponse le command is = refl
no-part operation le command is = absurd (none-some command is)

reading-taken : (operation : Operation) (le : Option ℕ) (command : ReadingCommand) (secrets : Bool) (limit : ℕ) → reading_command operation le ≡ Some command → IsTaken secrets limit operation
reading-taken (DeclareCursor object columns conditions) le command secrets limit is = tt
reading-taken OpenCursor le command secrets limit is = tt
reading-taken Next le command secrets limit is = tt
reading-taken Fetch le command secrets limit is = tt
reading-taken FetchNext le command secrets limit is = tt
reading-taken GetResponse le command secrets limit is = tt
reading-taken operation le command secrets limit is = absurd (none-some command is)

pub one-part : (c : Command) → comes_in_parts (kind_of c.operation) ≡ false → fits c ≡ true → part_count c ≡ 1
one-part c alone fitting =
    let small = leb-true (length (field_of c.operation)) 255 (rw alone at fitting) in
    omega (arith, parts_some (length (field_of c.operation)), parts_least (length (field_of c.operation)) 1 (omega arith) (omega (arith, small)))

-- a command of one part is answered by one step
pub answer-one : (m : Machine) (c : Command) → part_count c ≡ 1 → answer_to m c ≡ step m (octets_of c)
unfolding answer_to
answer-one m c one = rw (one, part-one c one) refl

-- a command in one is read as it is, on an open channel
pub answer-whole : (m : Machine) (c : Command) (s : Session) → IsSendable c → comes_in_parts (kind_of c.operation) ≡ false → IsTaken (has_secrets operations) m.committed.limit c.operation
    → session_of m c.channel ≡ Some s → answer_to m c ≡ stepped m (a_command c)
unfolding step
answer-whole m c s can alone taken there =
    answer-one m c (one-part c alone can.fitting)
    ∙ ap (stepped m) (command-again operations m.committed.limit c can.formed (HasLine-operations (kind_of c.operation)) taken
    (open_channels m) (command_chain m) (open-there m.sessions c.channel s there) (no_parts (kind_of c.operation) (command_chain m c.channel) alone))

-- the step of a reading command on an open channel
answer-stepped : (m : Machine) (c : Command) (s : Session) (command : ReadingCommand) → IsSendable c → reading_command c.operation c.le ≡ Some command → session_of m c.channel ≡ Some s
    → answer_to m c ≡ stepped m (a_command c)
answer-stepped m c s command can is there =
    answer-whole m c s can (no-part c.operation c.le command is) (reading-taken c.operation c.le command (has_secrets operations) m.committed.limit is) there

abbrev ended : Machine → ℕ → Machine
ended m channel = changing_session without_chain m channel

-- for whom a session acts
abbrev pub who : Machine → ℕ → Session → Actor
who m channel s = option_map_or (actor_of (base m channel)) s.user Public

abbrev pub in_session : Machine → ℕ → Session → Machine
in_session m channel s = with_session m channel (Some s)

-- a session that reads so, without parts of a command
abbrev pub reads_so : Session → Reading → Session
reads_so s reading = reading_so reading (without_chain s)

abbrev pub moved_answer : Machine → ℕ → Session → Move Reading → Answer
moved_answer m channel s move = record { reply = move.reply; machine = in_session m channel (reads_so s move.after); commits = [] }

pub answer-read : (m : Machine) (c : Command) (s t : Session) (command : ReadingCommand) → IsSendable c → reading_command c.operation c.le ≡ Some command
    → session_of m c.channel ≡ Some s
    → answer_to (in_session m c.channel t) c
    ≡ moved_answer m c.channel t (move_of (base m c.channel) (who m c.channel t) t.reading command)
answer-read m c s t command can is there =
    let n : Machine = in_session m c.channel t in
    let now : session_of n c.channel ≡ Some t = set-there m.sessions c.channel s t there in
    let acts : actor (ended n c.channel) c.channel ≡ who m c.channel t =
    ended-actor n c.channel ∙ ap (λ (session : Option Session). option_map_or (actor_of (base m c.channel)) (option_and_then (λ (x : Session). x.user) session) Public) now in
    let reads : reading_of (ended n c.channel) c.channel ≡ t.reading =
    ended-reading n c.channel ∙ ap (λ (session : Option Session). option_map_or (λ (x : Session). x.reading) session no_reading) now in
    let gone : ended n c.channel ≡ in_session m c.channel (without_chain t) = changing_session-set without_chain m c.channel (Some t) in
    answer-stepped n c t command can is now
    ∙ (stepped-reading n c command is
    ∙ (ap (λ (actor : Actor). let move = move_of (base m c.channel) actor (reading_of (ended n c.channel) c.channel) command in
    let a : Answer = record { reply = move.reply; machine = changing_session (reading_so move.after) (ended n c.channel) c.channel; commits = [] } in a) acts
    ∙ (ap (λ (reading : Reading). let move = move_of (base m c.channel) (who m c.channel t) reading command in
    let a : Answer = record { reply = move.reply; machine = changing_session (reading_so move.after) (ended n c.channel) c.channel; commits = [] } in a) reads
    ∙ ap (λ (machine : Machine). let move = move_of (base m c.channel) (who m c.channel t) t.reading command in
    let a : Answer = record { reply = move.reply; machine = machine; commits = [] } in a)
    (ap (λ (machine : Machine). changing_session (reading_so (move_of (base m c.channel) (who m c.channel t) t.reading command).after) machine c.channel) gone
    ∙ changing_session-set (reading_so (move_of (base m c.channel) (who m c.channel t) t.reading command).after) m c.channel (Some (without_chain t))))))
