-- What a reading command does to a card that holds a machine.
use Rattle.std.proofs.Common.{◌≡◌, ℕ, zero, suc, true, List, [], ◌∷◌, length, Option, Some, None, is_some, option_map, Result, Ok, Err, refl, lit≤, sym, ap, subst, ◌∙◌}
use Rattle.std.specs.Prelude.{IfOk, IfSome, IsErrAnd, OnOk, slice_get, slice_index_or}
use Rattle.eeprom.specs.declared.fault.EepromFault.{EepromFault}
use Rattle.scql_base.specs.declared.cursor.Cursor.{Cursor}
use Rattle.scql_model.specs.Cursors.{IsCursorOf, StandsOn}
use Rattle.std.specs.Option.{option_flatten, option_map_or}
use Rattle.std.proofs.lemmas.Option.{none-some}
use Rattle.eeprom.specs.Chip.{Chip}
use Rattle.scql_base.specs.declared.operation.Command.{Command}
use Rattle.scql_base.specs.declared.operation.Operation.{Operation}
use Rattle.scql_base.specs.declared.operation.Operation.TheVariants as asks
use Rattle.scql_base.specs.declared.words.Actor.{Actor}
use Rattle.scql_base.specs.declared.words.StatusWord.{StatusWord}
use Rattle.scql_model.specs.Database.{Database}
use Rattle.scql_model.specs.Machine as machine
use Rattle.scql_model.specs.Machine.{Chain, Machine, Reading, actor, base, no_reading}
use Rattle.scql_model.specs.Moves.{move_of}
use Rattle.scql_model.specs.Operations.{WantsLe, kind_of}
use Rattle.scql_model.specs.ReadingCommands.{Move, ReadingCommand, reading_command}
use Rattle.scql_model.specs.Sessions as sessions
use Rattle.scql_model.specs.Sessions.{cursor_of, reading_of, reading_so}
use Rattle.scql_model.specs.Step.{Answer, answered, carried_out}
use Rattle.scql_model.specs.WellFormed.{IsWellFormed}
use Rattle.record_table.specs.AtRest.{LeavesOneOf}
use Rattle.card.specs.Answering.{HoldsAnswer, Performs, changing_session, replied}
use Rattle.card.specs.Card.{Kept, HoldsMachine, IsAt}
use Rattle.card.specs.Reading.{is_reading}
use Rattle.card.specs.Sessions.{reading_in, session_seen, sessions_of}
use Rattle.card.specs.declared.session.Session.{Session}
use Rattle.card.proofs.Performing.{HoldsMachine-changing}
use Rattle.apdu_chain.proofs.CarriedOut.{carried_out-reads}

-- a command of a reading operation is a reading command
pub reads-command : (c : Command) → IsWellFormed c → is_reading (kind_of c.operation) ≡ true → (command : ReadingCommand) × (reading_command c.operation c.le ≡ Some command)
reads-command c formed reads = of c.operation c.le reads formed.wanted
  where
    with_le : (f : ℕ → ReadingCommand) (le : Option ℕ) → is_some le ≡ true → (command : ReadingCommand) × (option_map f le ≡ Some command)
    with_le f None is = absurd cc
    with_le f (Some n) is = (f n, refl)

    of : (operation : Operation) (le : Option ℕ) → is_reading (kind_of operation) ≡ true → (WantsLe (kind_of operation) → is_some le ≡ true) → (command : ReadingCommand) × (reading_command operation le ≡ Some command)
    of (asks.DeclareCursor object columns conditions) le reads wanted = (_, refl)
    of asks.OpenCursor le reads wanted = (_, refl)
    of asks.Next le reads wanted = (_, refl)
    of asks.Fetch le reads wanted = with_le _ le (wanted (0, lit≤ tt, refl))
    of asks.FetchNext le reads wanted = with_le _ le (wanted (1, lit≤ tt, refl))
    of asks.GetResponse le reads wanted = with_le _ le (wanted (3, lit≤ tt, refl))
    of operation le reads wanted = absurd cc

-- a session of the program reads what its channel reads
reading-seen : (sessions : List (Option Session)) (chains : List (Option Chain)) (channel : ℕ) (session : Session) → length sessions ≡ length chains → slice_index_or sessions channel None ≡ Some session
    → option_map_or (λ (s : machine.Session). s.reading) (option_flatten (slice_get (sessions_of sessions chains) channel)) no_reading ≡ reading_in session
reading-seen [] chains channel session same there = absurd (none-some session there)
reading-seen (s ∷ sessions) [] channel session same there = absurd cc
reading-seen (s ∷ sessions) (chain ∷ chains) zero session same there = ap (λ (s : Option Session). option_map_or (λ (s : machine.Session). s.reading) (option_map (session_seen chain) s) no_reading) there
reading-seen (s ∷ sessions) (chain ∷ chains) (suc channel) session same there = reading-seen sessions chains channel session (cc) there

pub reading-card : (card : Kept) (chip : Chip) (m : Machine) (sessions : List (Option Session)) (chains : List (Option Chain)) (channel : ℕ) (session : Session) → HoldsMachine card chip m → card.sessions ≡ sessions_of sessions chains
    → length sessions ≡ length chains → slice_index_or sessions channel None ≡ Some session → reading_of m channel ≡ reading_in session
reading-card card chip m sessions chains channel session at seen same there =
    ap (λ (s : List (Option machine.Session)). option_map_or (λ (s : machine.Session). s.reading) (option_flatten (slice_get s channel)) no_reading) (at.sessions ∙ seen)
    ∙ reading-seen sessions chains channel session same there

-- a cursor that stands on a database is one of it
pub of_database : (db : Database) (o : Option Cursor) → IfSome o (StandsOn db) → IfSome o (IsCursorOf db)
of_database db None is = tt
of_database db (Some c) is = is.columns

pub err-ok : (P : EepromFault → Type 0) (Q : StatusWord → Type 0) (r : Result StatusWord EepromFault) → IsErrAnd r P → IfOk r Q
err-ok P Q (Ok word) is = absurd is
err-ok P Q (Err fault) is = tt

pub err-on : (P : EepromFault → Type 0) (X : Type 0) (r : Result StatusWord EepromFault) → IsErrAnd r P → OnOk r X
err-on P X (Ok word) is = absurd is
err-on P X (Err fault) is = tt

-- a call that failed left what a command may leave
pub Performs-err : (P : EepromFault → Type 0) {m : Machine} {answer : Answer} {most : ℕ} {body : List ℕ} {result : Result StatusWord EepromFault} {card : Kept} {old new : Chip} → IsErrAnd result P → LeavesOneOf (m.committed ∷ answer.commits) old new
    → Performs m answer most body result card old new
Performs-err P {result = result} is moments = record { step = err-ok _ _ result is; moments = moments; unwritten = err-on _ _ result is; octets = err-on _ _ result is }

-- The cursor of a session is the machine's, and one of what its channel reads.
pub cursor-card : (card : Kept) (chip : Chip) (m : Machine) (sessions : List (Option Session)) (chains : List (Option Chain)) (channel : ℕ) (session : Session) → IsAt card chip m → card.sessions ≡ sessions_of sessions chains
    → length sessions ≡ length chains → slice_index_or sessions channel None ≡ Some session → (cursor_of m channel ≡ session.cursor) × IfSome session.cursor (IsCursorOf (base m channel))
cursor-card card chip m sessions chains channel session at seen same there =
    let reads = reading-card card chip m sessions chains channel session at.held seen same there in (
      ap (λ (reading : Reading). reading.cursor) reads,
      of_database (base m channel) session.cursor (subst (λ (reading : Reading). IfSome reading.cursor (StandsOn (base m channel))) reads (at.valid.readings channel).cursor),
    )

-- a move over the same database, for the same actor, from the same reading
pub move-there : (db base : Database) (who actor : Actor) (reading before : Reading) (command : ReadingCommand) (move : Move Reading) → base ≡ db → actor ≡ who → before ≡ reading
    → move_of db who reading command ≡ move → move_of base actor before command ≡ move
move-there db base who actor reading before command move same acts reads moves = rw (same, acts, reads) moves

-- the answer of a move
abbrev answer_of : Machine → ℕ → Move Reading → Answer
answer_of m channel move = record { reply = move.reply; machine = sessions.changing_session (reading_so move.after) m channel; commits = [] }

-- a command that reads answers by its move
pub HoldsAnswer-read : (card after : Kept) (chip : Chip) (m : Machine) (c : Command) (command : ReadingCommand) (body : List ℕ) (word : StatusWord) (reading : Reading) → HoldsMachine card chip m
    → reading_command c.operation c.le ≡ Some command → move_of (base m c.channel) (actor m c.channel) (reading_of m c.channel) command ≡ record { reply = replied body word; after = reading }
    → after ≡ changing_session (reading_so reading) card c.channel → HoldsAnswer (answered m (carried_out m c)) (replied body word) after chip
HoldsAnswer-read card after chip m c command body word reading at is moves set =
    subst (λ (kept : Kept). HoldsAnswer (answered m (carried_out m c)) (replied body word) kept chip) (sym set)
    (subst (λ (answer : Answer). HoldsAnswer answer (replied body word) (changing_session (reading_so reading) card c.channel) chip)
    (sym (ap (answered m) (carried_out-reads m c command is) ∙ ap (answer_of m c.channel) moves))
    (record { reply = refl; held = HoldsMachine-changing (reading_so reading) card chip m c.channel at }))

-- what a session of the program reads then is what the one that is seen reads
pub reads-so : (new old : Session) → new.user ≡ old.user → (chain : Option Chain) → session_seen chain new ≡ reading_so (reading_in new) (session_seen chain old)
reads-so new old same chain = rw same refl
