-- A card whose rows are fetched: what is there of them, and what becomes of the card.
use Rattle.std.specs.Prelude.{◌≡◌, ◌⊎◌, ℕ, suc, Bool, List, [], ◌∷◌, ◌++◌, length, Result, Ok, Err, IfErr, IsTrue, OnOk}
use Rattle.std.specs.Option.{option_map_or}
use Rattle.eeprom.specs.Chip.{Chip}
use Rattle.scql_base.specs.Row.{row_from}
use Rattle.scql_base.specs.declared.words.StatusWord.{StatusWord}
use Rattle.scql_model.specs.Machine.{Machine}
use Rattle.scql_model.specs.Matching.{Values}
use Rattle.scql_model.specs.Shown.{shown_on}
use Rattle.card_link.specs.Link.{Holds, LeavesOpen, Mutes}
use Rattle.script.specs.Commands.{CanBeSent}
use Rattle.script.specs.declared.statement.Statement.TheVariants.{Select}
use Rattle.planner.specs.declared.closing.Closing.{Closing}
use Rattle.planner.specs.declared.closing.Closing.TheVariants.{Refused}
use Rattle.planner.specs.declared.step.Step.{Step}
use Rattle.planner.specs.declared.step.Step.TheVariants.{Row}
use Rattle.planner.specs.Planned.{Planned}
use Rattle.card_asking.specs.Calls.{HasGoneOn, StillAnswers}
use Rattle.card_asking.specs.Following.{ComesOn}
use Rattle.card_asking.specs.Giving.{GivesRows}
use Rattle.query.specs.declared.query.AskedObject.{AskedObject}
use Rattle.query_run.specs.declared.unfetched.Unfetched.{Unfetched}
use Rattle.query_run.specs.declared.unfetched.Unfetched.TheVariants as unfetched

-- the SELECT of an object's rows can be sent
abbrev pub CanBeAsked : AskedObject → Type 0
CanBeAsked asked = CanBeSent 0 (Select asked.object asked.columns [])

-- A card answers still, and what it is to be asked for can be asked for.
pub record CanAsk {L : Type 0} (is_live : L → Bool) (can_be : Type 0) (link : L) : Type 0 where
  pub live : IsTrue (is_live link)
  pub askable : can_be

-- A link is at a machine on which queries read what they read on this one: the committed database is the same, and channel 0 is shown the same objects.
pub record ReadsAs {L : Type 0} (is_at : L → Machine → Type 0) (m : Machine) (now : L) : Type 0 where
  pub machine : Machine
  pub at : is_at now machine
  pub committed : machine.committed ≡ m.committed
  pub objects : (shown_on machine 0).objects ≡ (shown_on m 0).objects

-- What was fetched is what is shown, or the refusal is the one that follows from that; and the link reads as before.
abbrev pub FetchesSo : {L A B : Type 0} → (L → Machine → Type 0) → Machine → (A → B) → Result B StatusWord → Result A Unfetched → L → Type 0
FetchesSo is_at m view shown (Ok x) now = (shown ≡ Ok (view x)) × ReadsAs is_at m now
FetchesSo is_at m view shown (Err (unfetched.Refused word)) now = (shown ≡ Err word) × ReadsAs is_at m now
FetchesSo is_at m view shown (Err end) now = Unit {0}

-- Fetching ends because the card is mute only where that failed.
abbrev pub EndsFetching : {L A : Type 0} → (L → Bool) → (L → ℕ) → Result A Unfetched → L → L → Type 0
EndsFetching is_live faults (Err unfetched.Mute) old new = Mutes is_live faults old new
EndsFetching is_live faults result old new = StillAnswers is_live faults old new

-- Rows were fetched over a card that was at a machine, or are still being fetched.
pub record FetchesOver {L : Type 0} (mark : L → ℕ) (chip : L → Chip) (m : Machine) (came : Type 0) (old new : L) : Type 0 where
  -- This came of it.
  pub fetches : came
  -- A power loss leaves the database that it had.
  pub moments : LeavesOpen (Holds (mark old) m.committed) (chip old) (chip new)

-- What fetching leaves of a link, whatever is told of its card.
pub record FetchingLeaves {L A : Type 0} (is_live : L → Bool) (faults mark : L → ℕ) (keeps goes_on : L → L → Type 0) (result : Result A Unfetched) (old new : L) : Type 0 where
  -- It ended so since the card failed, or it didn't.
  pub ends : EndsFetching is_live faults result old new
  -- Nothing was printed, and the link goes on.
  pub rest : HasGoneOn mark keeps goes_on old new

-- how a plan ended: with all rows, or by a refusal
abbrev pub fetched_by : Closing → Result (Unit {0}) Unfetched
fetched_by (Refused word) = Err (unfetched.Refused word)
fetched_by closing = Ok tt

-- the row that a step has, where its octets are a row
abbrev pub row_at : Step → List ℕ → List Values
row_at (Row command) octets = option_map_or (λ values. values ∷ []) (row_from octets) []
row_at step octets = []

-- there is one more, or as many as there were
abbrev pub GrowsByOne : ℕ → ℕ → Type 0
GrowsByOne before now = (now ≡ before) ⊎ (now ≡ suc before)

-- The row of a plan's step was taken, if the step has one, and the plan comes on to its next step.
pub record TakesRow (before : List Values) (p : Planned) (step : Step) (after : List Values) (q : Planned) (next : Step) : Type 0 where
  pub grows : GrowsByOne (length before) (length after)
  pub comes_on : ComesOn p step q next

-- Some rows were fetched, and on a link that was at this machine a plan is still to give the others.
pub record IsFetching {L : Type 0} (is_at : L → Machine → Type 0) (m : Machine) (closing : Closing) (last : Machine) (all fetched : List Values) (p : Planned) (step : Step) (now : L) : Type 0 where
  pub left : List Values
  pub split : fetched ++ left ≡ all
  pub gives : GivesRows is_at m closing last left p step now

-- All rows were fetched, it ended as it was to, and the link is at that machine.
pub record IsFetched {L : Type 0} (is_at : L → Machine → Type 0) (closing : Closing) (last : Machine) (all fetched : List Values) (r : Result (Unit {0}) Unfetched) (now : L) : Type 0 where
  pub rows : fetched ≡ all
  pub ends : r ≡ fetched_by closing
  pub at : is_at now last

-- it wasn't refused
abbrev pub IsStopped : Unfetched → Type 0
IsStopped (unfetched.Refused word) = ⊥
IsStopped end = Unit {0}

-- unless the card went mute, or there was no memory
abbrev pub UnlessStopped : {A : Type 0} → Result A Unfetched → Type 0 → Type 0
UnlessStopped (Err unfetched.Mute) P = Unit {0}
UnlessStopped (Err unfetched.NoMemory) P = Unit {0}
UnlessStopped r P = P

-- A step's row was to be taken, and the step to be followed.
pub record TakesOver {L : Type 0} (before : List Values) (p : Planned) (step : Step) (after : List Values) (q : Planned) (next : Step) (is_at : L → Machine → Type 0) (is_live : L → Bool) (faults mark : L → ℕ) (chip : L → Chip) (keeps goes_on : L → L → Type 0) (result : Result (Unit {0}) Unfetched) (old new : L) : Type 0 where
  -- Rows that are still fetched over a card are so after it.
  pub over : (m last : Machine) (closing : Closing) (all : List Values) → IsFetching is_at m closing last all before p step old
      → FetchesOver mark chip m (OnOk result (IsFetching is_at m closing last all after q next new)) old new
  -- Where nothing failed the row was taken,
  pub takes : OnOk result (TakesRow before p step after q next)
  -- and otherwise it wasn't a refusal.
  pub stops : IfErr result IsStopped
  -- Whatever is told of the card, the link is left so.
  pub leaves : FetchingLeaves is_live faults mark keeps goes_on result old new

-- Rows were to be fetched before a person who watches.
pub record Fetches {L A : Type 0} (came seen : Type 0) (is_live : L → Bool) (faults mark : L → ℕ) (keeps goes_on : L → L → Type 0) (result : Result A Unfetched) (old new : L) : Type 0 where
  -- This came of it over a card whose machine is told.
  pub over : came
  -- Whatever is told of the card, the link is left so.
  pub leaves : FetchingLeaves is_live faults mark keeps goes_on result old new
  -- The person was shown how many rows were fetched.
  pub shows : seen
