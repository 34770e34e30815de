-- What a run over lines of queries prints, how it ends, and what it leaves.
use Rattle.std.specs.Prelude.{◌≡◌, ℕ, ◌<◌, Bool, true, false, List, length, Option}
use Rattle.eeprom.specs.Chip.{Becomes, Chip}
use Rattle.eeprom.specs.Output.{Prints}
use Rattle.scql_model.specs.Lines.{lines}
use Rattle.scql_model.specs.Machine.{Machine}
use Rattle.scql_model.specs.Shown.{shown_on}
use Rattle.line_input.specs.Reading.{longest_input}
use Rattle.person.specs.Showing.{ShowsSome}
use Rattle.program.specs.declared.status.Status.{Status}
use Rattle.program.specs.Ends.{EndsBy, RunsTo, reads_all}
use Rattle.program.specs.Numbers.{ends_as}
use Rattle.query_run.specs.Answering.{ShowsCounts}
use Rattle.query_run.specs.QueryLines.{asked_texts, query_lines, some_refused}
use Rattle.query_run.specs.Statuses.{program_status}
use Rattle.query_run.specs.declared.status.QueryStatus.{QueryStatus}
use Rattle.query_run.specs.declared.status.QueryStatus.TheVariants.{NotACard, TooLong}

-- What lines of queries print: each its text, from what is shown to channel 0 of this machine. The status tells whether one was refused.
pub record PrintsQueries (m : Machine) (input : List ℕ) (status : Status) (before now : Option (List ℕ)) : Type 0 where
  pub printed : Prints (asked_texts (shown_on m 0) (lines input true)) before now
  pub tells : status ≡ ends_as (some_refused (shown_on m 0) (lines input true))

-- A run over lines of queries ended so, from a machine on.
pub record RunsQueries {X : Type 0} (chip : X → Chip) (eeprom : X → ℕ) (m : Machine) (status : Status) (start end : Option (List ℕ)) (old new : X) : Type 0 where
  -- One extent says which of the lines were answered and in which the run stopped. At each moment the image opens to what it opened to.
  pub runs : Becomes (λ input left. RunsTo chip eeprom query_lines (record { machine = m; refused = false }) status input left old new) start end
  -- Where it read its input to its end each line printed what follows from what is shown to channel 0 where the lines begin.
  pub prints : reads_all status ≡ true → Becomes (λ input left. PrintsQueries m input status (chip old).still.given (chip new).still.given) start end

-- What a run over queries leaves of its devices, of the person who watches how rows are fetched, and of the one who is told of the lines.
pub record RunLeaves {X T P N : Type 0} (eeprom outlet : X → ℕ) (faults : T → ℕ) (left : T → Option (List ℕ)) (lost : P → Bool) (shown : P → Option (List ℕ)) (missed : N → Bool) (heard : N → Option (List ℕ)) (status : QueryStatus) (source after : T) (old new : X) (person watched : P) (notices later : N) : Type 0 where
  -- The input is too long only where more came.
  pub too_long : status ≡ TooLong → Becomes (λ input rest. longest_input < length input) (left source) (left after)
  -- Each fault has its cause, and without one the counts stay.
  pub ends : EndsBy (program_status status) (record { eeprom = eeprom old; source = faults source; outlet = outlet old }) (record { eeprom = eeprom new; source = faults after; outlet = outlet new })
  -- The first person was shown how many rows were fetched,
  pub shows : ShowsCounts lost shown person watched
  -- and the other one some text.
  pub told : ShowsSome missed heard notices later

-- A run over queries came to its end on a desk.
pub record EndsOnDesk {X T P N : Type 0} (ran read : Type 0) (goes : X → X → Type 0) (eeprom outlet : X → ℕ) (faults : T → ℕ) (left : T → Option (List ℕ)) (lost : P → Bool) (shown : P → Option (List ℕ)) (missed : N → Bool) (heard : N → Option (List ℕ)) (status : QueryStatus) (source after : T) (old new : X) (person watched : P) (notices later : N) : Type 0 where
  -- This came of it over a card whose machine is told.
  pub runs : ran
  -- Where the status tells that all was read, it was read so.
  pub whole : reads_all (program_status status) ≡ true → read
  -- The card was opened,
  pub opened : ¬ (status ≡ NotACard)
  -- its desk went on,
  pub goes_on : goes old new
  -- and this is left of all devices and persons.
  pub leaves : RunLeaves eeprom outlet faults left lost shown missed heard status source after old new person watched notices later
