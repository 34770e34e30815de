-- How a desk answers a line of queries.
use Rattle.std.specs.Prelude.{◌≡◌, ℕ, ◌≤◌, nat_lt, Bool, List, length, Option, Result, Ok, Err, IsTrue, OnOk}
use Rattle.std.specs.List.{AllByRecursion}
use Rattle.eeprom.specs.Chip.{Chip}
use Rattle.eeprom.specs.Output.{Prints}
use Rattle.scql_model.specs.Machine.{Machine}
use Rattle.scql_model.specs.Matching.{Values}
use Rattle.scql_model.specs.Shown.{Shown, shown_on}
use Rattle.card_link.specs.Link.{HoldsWithin, LeavesOpen}
use Rattle.line_run.specs.declared.line_stop.LineStop.{LineStop}
use Rattle.line_run.specs.declared.line_stop.LineStop.TheVariants.{Eeprom, Outlet, Both, NoMemory}
use Rattle.line_run.specs.Causes.{Causes}
use Rattle.person.specs.Showing.{Shows}
use Rattle.row_join.specs.Joins.{kept}
use Rattle.row_join.specs.Links.{AreWithin}
use Rattle.terminal.specs.Failing.{IsStart}
use Rattle.query.specs.Asked.{Asked}
use Rattle.query_run.specs.declared.answer.Answer.{Answer}
use Rattle.query_run.specs.declared.unfetched.Unfetched.{Unfetched}
use Rattle.query_run.specs.declared.unfetched.Unfetched.TheVariants as unfetched
use Rattle.query_run.specs.Answers.{IsPrintable, found_text, is_refusal}
use Rattle.query_run.specs.Fetching.{CanBeAsked, ReadsAs}
use Rattle.query_run.specs.Progress.{fetched_texts}
use Rattle.query_run.specs.QueryLines.{is_refused}
use Rattle.query_run.specs.QueryText.{kept_text, most_combinations, query_text}

-- A query can be answered: the SELECT of each object can be sent, there are no more objects than a query has, and its equalities are between their columns.
pub record IsAnswerable (query : Asked) : Type 0 where
  pub sendable : AllByRecursion CanBeAsked query.objects
  pub few : length query.objects ≤ 3
  pub within : AreWithin (length query.objects) query.equalities

-- what a query gives of these tables
pub record JoinsSo (query : Asked) (tables : List (List Values)) (answer : Answer) : Type 0 where
  pub text : found_text query answer ≡ kept_text query (kept query.equalities tables)
  pub refused : is_refusal answer ≡ nat_lt most_combinations (length (kept query.equalities tables))
  pub printable : IsPrintable answer

-- what a query gives follows from what is shown, and the link reads as before
pub record FindsSo {L : Type 0} (is_at : L → Machine → Type 0) (m : Machine) (query : Asked) (answer : Answer) (now : L) : Type 0 where
  pub text : found_text query answer ≡ query_text (shown_on m 0) query
  pub refused : is_refusal answer ≡ is_refused (shown_on m 0) query
  pub reads : ReadsAs is_at m now

-- a person was shown how many rows were fetched of some objects
pub record ShowsCounts {P : Type 0} (lost : P → Bool) (shown : P → Option (List ℕ)) (person after : P) : Type 0 where
  pub counts : List ℕ
  pub shows : Shows lost shown (fetched_texts counts) person after

-- A line was answered that has this text, and is refused or not.
pub record IsAnswered {L : Type 0} (is_at : L → Machine → Type 0) (given : L → Option (List ℕ)) (m : Machine) (text : List ℕ) (refused was : Bool) (old new : L) : Type 0 where
  pub tells : was ≡ refused
  pub printed : Prints text (given old) (given new)
  pub reads : ReadsAs is_at m new

-- Where a device failed in it, or there was no memory, no more of it was printed than its start, and that only where the outlet failed.
abbrev pub AnswersSo : {L : Type 0} → (L → Machine → Type 0) → (L → Option (List ℕ)) → Machine → List ℕ → Bool → Result Bool LineStop → L → L → Type 0
AnswersSo is_at given m text refused (Ok was) old new = IsAnswered is_at given m text refused was old new
AnswersSo is_at given m text refused (Err Outlet) old new = IsStart text (given old) (given new)
AnswersSo is_at given m text refused (Err Both) old new = ⊥
AnswersSo is_at given m text refused (Err stop) old new = given new ≡ given old

-- Where the card failed, or there was no memory, nothing was printed.
abbrev pub IsUnmarked : {L : Type 0} → (L → ℕ) → Result Bool LineStop → L → L → Type 0
IsUnmarked mark (Err Eeprom) old new = mark new ≡ mark old
IsUnmarked mark (Err NoMemory) old new = mark new ≡ mark old
IsUnmarked mark r old new = Unit {0}

-- A line ended so on a desk that read as a machine does, where it has this text, and is refused or not.
pub record AnswersOver {L : Type 0} (is_at : L → Machine → Type 0) (given : L → Option (List ℕ)) (mark : L → ℕ) (chip : L → Chip) (m : Machine) (text : List ℕ) (refused : Bool) (result : Result Bool LineStop) (old new : L) : Type 0 where
  -- It was answered; or a device failed, or there was no memory, and as much of its text was printed as then is.
  pub answers : AnswersSo is_at given m text refused result old new
  -- A power loss leaves the database that the card had.
  pub moments : LeavesOpen (HoldsWithin (mark old) (mark new) m.committed) (chip old) (chip new)

-- So it ended at any machine as which the desk read. Its text, and whether it is refused, follow from what is shown to channel 0 there.
abbrev pub AnswersAsShown : {L : Type 0} → (is_at : L → Machine → Type 0) (given : L → Option (List ℕ)) (mark : L → ℕ) (chip : L → Chip) (text : Shown → List ℕ) (refused : Shown → Bool) (result : Result Bool LineStop) (old new : L) → Type 0
AnswersAsShown is_at given mark chip text refused result old new =
    (m : Machine) → ReadsAs is_at m old → AnswersOver is_at given mark chip m (text (shown_on m 0)) (refused (shown_on m 0)) result old new

-- What a line leaves of a desk, whatever is told of its card, and of a person who watches.
pub record AnsweringLeaves {L P : Type 0} (is_live : L → Bool) (faults sink_faults mark : L → ℕ) (goes : L → L → Type 0) (lost : P → Bool) (shown : P → Option (List ℕ)) (result : Result Bool LineStop) (old new : L) (person after : P) : Type 0 where
  -- Where the card failed, or there was no memory, nothing was printed.
  pub unmarked : IsUnmarked mark result old new
  -- It ended so since that device failed, or none did.
  pub causes : Causes (record { eeprom = faults old; outlet = sink_faults old }) (record { eeprom = faults new; outlet = sink_faults new }) result
  -- A card that answered a line answers still.
  pub live : OnOk result (IsTrue (is_live new))
  -- The link goes on.
  pub goes_on : goes old new
  -- The person was shown how many rows were fetched.
  pub shows : ShowsCounts lost shown person after

-- A line was answered, or it wasn't, on a desk and before a person who watches.
pub record AnswersLine {L P : Type 0} (text : Shown → List ℕ) (refused : Shown → Bool) (is_at : L → Machine → Type 0) (given : L → Option (List ℕ)) (is_live : L → Bool) (faults sink_faults mark : L → ℕ) (chip : L → Chip) (goes : L → L → Type 0) (lost : P → Bool) (shown : P → Option (List ℕ)) (result : Result Bool LineStop) (old new : L) (person after : P) : Type 0 where
  -- It ended so at each machine as which the desk read,
  pub answers : AnswersAsShown is_at given mark chip text refused result old new
  -- and left this of the desk and of the person.
  pub leaves : AnsweringLeaves is_live faults sink_faults mark goes lost shown result old new person after

-- a stop of the fetching as one of the line
abbrev pub stop_of : Unfetched → LineStop
stop_of unfetched.Mute = Eeprom
stop_of end = NoMemory

-- whether a line was refused whose text was printed, or the outlet failed
abbrev pub told_as : {E : Type 0} → Result (Unit {0}) E → Bool → Result Bool LineStop
told_as (Ok x) refused = Ok refused
told_as (Err e) refused = Err Outlet
