-- A copy under way: what is left of the source's rows, and the destination's transaction.
use Rattle.std.specs.Prelude.{◌≡◌, ℕ, ◌+◌, ◌==◌, Bool, true, false, List, [], ◌∷◌, length, Some, None, Result, Ok, Err, if◌then◌else◌}
use Rattle.std.specs.Option.{option_map_or}
use Rattle.scql_base.specs.declared.words.Actor.{Actor}
use Rattle.scql_base.specs.declared.words.Actor.TheVariants.{Public}
use Rattle.scql_base.specs.declared.words.StatusWord.{StatusWord}
use Rattle.scql_base.specs.declared.operation.Command.{Command}
use Rattle.scql_base.specs.declared.operation.Operation.TheVariants.{Insert}
use Rattle.scql_base.specs.Words.{wrong_data}
use Rattle.scql_model.specs.Database.{Database}
use Rattle.scql_model.specs.Machine.{Machine, Session, Transaction, session_of, actor_of, actor}
use Rattle.scql_model.specs.Matching.{Values}
use Rattle.script.specs.Commands.{asking, IsSendable}
use Rattle.planner.specs.declared.closing.Closing.{Closing}
use Rattle.planner.specs.declared.closing.Closing.TheVariants.{Rows, Refused}
use Rattle.planner.specs.declared.step.Step.{Step}
use Rattle.planner.specs.declared.step.Step.TheVariants.{Row, Done}
use Rattle.planner.specs.Planned.{Planned}
use Rattle.planner.specs.Words.{is_done}
use Rattle.card_asking.specs.Giving.{GivesRows, IsNextRow, behind_step}
use Rattle.table_copy.specs.Copy.{rows_copied}
use Rattle.card_asking.specs.Calls.{StillAnswers}
use Rattle.table_copy.specs.Copying.{StaysAt, StandsAt}
use Rattle.table_copy.specs.declared.copy_end.CopyEnd.{CopyEnd}
use Rattle.table_copy.specs.declared.copy_end.CopyEnd.TheVariants.{SourceRefused, DestRefused, SourceMute, DestMute}
use Rattle.card_link.specs.Link.{Mutes}

-- How a piece of a copy ends: it is done, or it ends the copy.
abbrev pub Piece : Type 0 → Type 0
Piece A = Result A CopyEnd

-- the source's plan ended: with so many rows, by a refusal, or at what is no row
abbrev pub fetched_by : Closing → Piece ℕ
fetched_by (Rows number) = Ok number
fetched_by (Refused word) = Err (SourceRefused word)
fetched_by closing = Err (SourceRefused wrong_data)

-- whether a piece was done
abbrev pub whether : {A : Type 0} → Piece A → Piece (Unit {0})
whether (Ok x) = Ok tt
whether (Err end) = Err end

-- whether the source's plan goes on behind a step, or has all rows
abbrev pub goes_on_by : Step → Piece (Unit {0})
goes_on_by (Done closing) = whether (fetched_by closing)
goes_on_by step = Ok tt

-- whether the destination did what it was asked
abbrev pub done_by : StatusWord → Piece (Unit {0})
done_by word = if is_done word then Ok tt else Err (DestRefused word)

-- so many rows, where they were committed
abbrev pub counted_by : ℕ → Piece (Unit {0}) → Piece ℕ
counted_by rows (Ok x) = Ok rows
counted_by rows (Err end) = Err end

-- Where a piece didn't end because the source is mute, or the destination, this holds.
abbrev pub UnlessSourceMute : {A : Type 0} → Piece A → Type 0 → Type 0
UnlessSourceMute r P = (r ≡ Err SourceMute → ⊥) → P

abbrev pub UnlessDestMute : {A : Type 0} → Piece A → Type 0 → Type 0
UnlessDestMute r P = (r ≡ Err DestMute → ⊥) → P

-- A piece on one card alone ends because that card is mute only where it failed, and never because the other one is mute.
abbrev pub OfSource : {L A : Type 0} → (L → Bool) → (L → ℕ) → Piece A → L → L → Type 0
OfSource is_live faults (Ok x) old new = StillAnswers is_live faults old new
OfSource is_live faults (Err (SourceRefused word)) old new = StillAnswers is_live faults old new
OfSource is_live faults (Err SourceMute) old new = Mutes is_live faults old new
OfSource is_live faults (Err end) old new = ⊥

abbrev pub OfDest : {L A : Type 0} → (L → Bool) → (L → ℕ) → Piece A → L → L → Type 0
OfDest is_live faults (Ok x) old new = StillAnswers is_live faults old new
OfDest is_live faults (Err (DestRefused word)) old new = StillAnswers is_live faults old new
OfDest is_live faults (Err (SourceRefused word)) old new = StillAnswers is_live faults old new
OfDest is_live faults (Err DestMute) old new = Mutes is_live faults old new
OfDest is_live faults (Err end) old new = ⊥

-- The source alone.

-- on a link that was at this machine a plan is still to give some rows, or gave all
pub record IsFetching {L : Type 0} (is_at : L → Machine → Type 0) (s : Machine) (p : Planned) (step : Step) (now : L) : Type 0 where
  pub closing : Closing
  pub last : Machine
  pub rows : List Values
  pub gives : GivesRows is_at s closing last rows p step now

-- it is to give these rows, and so many in all
pub record GivesAll {L : Type 0} (is_at : L → Machine → Type 0) (s : Machine) (count : ℕ) (rows : List Values) (p : Planned) (step : Step) (now : L) : Type 0 where
  pub last : Machine
  pub gives : GivesRows is_at s (Rows count) last rows p step now

-- a source that was opened gives all rows; one that refused is as before
abbrev pub OpensSo : {L : Type 0} → (L → Machine → Type 0) → Machine → Result (List Values) StatusWord → Planned → Step → Piece (Unit {0}) → L → Type 0
OpensSo is_at s given p step (Ok x) now = (rows : List Values) × (given ≡ Ok rows) × GivesAll is_at s (length rows) rows p step now
OpensSo is_at s given p step (Err (SourceRefused word)) now = (given ≡ Err word) × StaysAt is_at s now
OpensSo is_at s given p step (Err SourceMute) now = Unit {0}
OpensSo is_at s given p step (Err end) now = ⊥

-- while rows are fetched, and behind the last of them
abbrev pub FetchesSo : {L A : Type 0} → (L → Machine → Type 0) → Machine → Piece A → Type 0 → L → Type 0
FetchesSo is_at s (Ok x) P now = P
FetchesSo is_at s (Err SourceMute) P now = Unit {0}
FetchesSo is_at s (Err end) P now = StaysAt is_at s now

-- The destination alone.

-- for whom a session acts on a database
abbrev pub acting : Database → Session → Actor
acting db s = option_map_or (actor_of db) s.user Public

-- A machine without a transaction has begun one on channel 0, for the same actor, and has this working database. Nothing was committed since.
pub record IsCopying (d : Machine) (db : Database) (m : Machine) : Type 0 where
  pub committed : m.committed ≡ d.committed
  pub free : d.transaction ≡ None
  pub transaction : Transaction
  pub began : m.transaction ≡ Some transaction
  pub own : (transaction.channel == 0) ≡ true
  pub working : transaction.working ≡ db
  pub session : Session
  pub there : session_of m 0 ≡ Some session
  pub unchained : session.chain ≡ None
  pub nothing_pending : session.reading.pending ≡ []
  pub acts : acting db session ≡ actor d 0

pub record CopiesAt {L : Type 0} (is_at : L → Machine → Type 0) (d : Machine) (db : Database) (now : L) : Type 0 where
  pub machine : Machine
  pub at : is_at now machine
  pub copies : IsCopying d db machine

-- with some working database
pub record IsFilling {L : Type 0} (is_at : L → Machine → Type 0) (d : Machine) (now : L) : Type 0 where
  pub db : Database
  pub copies : CopiesAt is_at d db now

-- a command is an INSERT into a table, and can be sent
pub record IsInsertion (table : List ℕ) (c : Command) : Type 0 where
  pub row : Values
  pub is : c ≡ asking 0 (Insert table row)
  pub sendable : IsSendable c

-- BEGIN was done, or refused as it is to be; then all is as before
abbrev pub BeginsSo : {L : Type 0} → (L → Machine → Type 0) → Machine → Result (Unit {0}) StatusWord → Piece (Unit {0}) → L → Type 0
BeginsSo is_at d may (Ok x) now = (may ≡ Ok tt) × CopiesAt is_at d d.committed now
BeginsSo is_at d may (Err (DestRefused word)) now = (may ≡ Err word) × StaysAt is_at d now
BeginsSo is_at d may (Err DestMute) now = Unit {0}
BeginsSo is_at d may (Err end) now = ⊥

-- a row is added to the working database, or refused
abbrev pub InsertsSo : {L : Type 0} → (L → Machine → Type 0) → Machine → Database → Result Database StatusWord → Piece (Unit {0}) → L → Type 0
InsertsSo is_at d db added (Ok x) now = (next : Database) × (added ≡ Ok next) × CopiesAt is_at d next now
InsertsSo is_at d db added (Err (DestRefused word)) now = (added ≡ Err word) × CopiesAt is_at d db now
InsertsSo is_at d db added (Err DestMute) now = Unit {0}
InsertsSo is_at d db added (Err end) now = ⊥

-- COMMIT is done, unless the card is mute
abbrev pub CommitsSo : {L : Type 0} → (L → Machine → Type 0) → Machine → Database → Piece (Unit {0}) → L → Type 0
CommitsSo is_at d db (Ok x) now = StandsAt is_at d db now
CommitsSo is_at d db (Err DestMute) now = Unit {0}
CommitsSo is_at d db (Err end) now = ⊥

-- behind a ROLLBACK the card answers, or is mute
abbrev pub RollsBackSo : {L : Type 0} → (L → Bool) → (L → ℕ) → CopyEnd → L → L → Type 0
RollsBackSo is_live faults DestMute old new = Mutes is_live faults old new
RollsBackSo is_live faults end old new = StillAnswers is_live faults old new

-- Both.

-- a step with a row has the first of the rows that are left
abbrev pub HasRow : Step → List Values → List ℕ → Type 0
HasRow (Row command) rows octets = IsNextRow rows octets
HasRow step rows octets = Unit {0}

-- What the rows make that are left doesn't change when a step's row is put in.
abbrev pub PutsSo : {L : Type 0} → (L → Machine → Type 0) → Machine → List ℕ → Step → List Values → Database → Piece (Unit {0}) → L → Type 0
PutsSo is_at d table step rows db (Ok x) now =
    (next : Database)
    × (rows_copied d.committed.limit (actor d 0) table db rows ≡ rows_copied d.committed.limit (actor d 0) table next (behind_step step rows))
    × CopiesAt is_at d next now
PutsSo is_at d table step rows db (Err (DestRefused word)) now = rows_copied d.committed.limit (actor d 0) table db rows ≡ Err word
PutsSo is_at d table step rows db (Err DestMute) now = Unit {0}
PutsSo is_at d table step rows db (Err end) now = ⊥

-- whether a step has a row
abbrev pub has_row : Step → Bool
has_row (Row command) = true
has_row step = false

-- so many with it
abbrev pub with_row : Bool → ℕ → ℕ
with_row had_row rows = rows + (if had_row then 1 else 0)

-- So many rows were put in, and these are still to come. From the working database they lead to the same.
pub record Together {S D : Type 0} (source_at : S → Machine → Type 0) (dest_at : D → Machine → Type 0) (s d : Machine) (count passed : ℕ) (table : List ℕ) (total : Result Database StatusWord) (p : Planned) (step : Step) (source : S)
    (dest : D) : Type 0 where
  pub left : List Values
  pub db : Database
  pub gives : GivesAll source_at s count left p step source
  pub copies : CopiesAt dest_at d db dest
  pub leads : rows_copied d.committed.limit (actor d 0) table db left ≡ total
  pub counted : passed + length left ≡ count

-- as long as both answer only the destination refuses, and then the refusal is the first of the rows
abbrev pub TurnsSo : {A : Type 0} → Result Database StatusWord → Piece A → (A → Type 0) → Type 0
TurnsSo total (Ok x) P = P x
TurnsSo total (Err (DestRefused word)) P = total ≡ Err word
TurnsSo total (Err SourceMute) P = Unit {0}
TurnsSo total (Err DestMute) P = Unit {0}
TurnsSo total (Err end) P = ⊥

-- all rows are in the working database, or are committed
pub record IsFilled {L : Type 0} (is_at : L → Machine → Type 0) (d : Machine) (count : ℕ) (total : Result Database StatusWord) (number : ℕ) (now : L) : Type 0 where
  pub counted : number ≡ count
  pub db : Database
  pub made : total ≡ Ok db
  pub copies : CopiesAt is_at d db now

pub record IsCommitted {L : Type 0} (is_at : L → Machine → Type 0) (d : Machine) (count : ℕ) (total : Result Database StatusWord) (number : ℕ) (now : L) : Type 0 where
  pub counted : number ≡ count
  pub db : Database
  pub made : total ≡ Ok db
  pub stands : StandsAt is_at d db now

-- the databases that a destination commits whose rows make this
abbrev pub commits_by : Result Database StatusWord → List Database
commits_by (Ok db) = db ∷ []
commits_by (Err word) = []

-- what isn't committed a destination still has in its transaction
abbrev pub FillsSo : {L A : Type 0} → (L → Machine → Type 0) → Machine → Piece A → L → Type 0
FillsSo is_at d (Ok x) now = Unit {0}
FillsSo is_at d (Err DestMute) now = Unit {0}
FillsSo is_at d (Err end) now = IsFilling is_at d now
