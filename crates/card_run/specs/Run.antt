-- What a run owes over lines, and how it ends where there is no card.
use Rattle.std.specs.Prelude.{◌≡◌, ◌⊎◌, ℕ, ◌<◌, ◌≤◌, Bool, true, List, [], length, Option, Some, IsSome, IfSome}
use Rattle.eeprom.specs.Chip.{Chip, Becomes}
use Rattle.eeprom.specs.Fault.{Rose}
use Rattle.card.specs.Behind.{KeepsBehind}
use Rattle.scql_model.specs.Database.{Database}
use Rattle.scql_model.specs.Lines.{Language, lines, run_text, state_after}
use Rattle.scql_model.specs.Opens.{Opens}
use Rattle.program.specs.declared.status.Status.{Status}
use Rattle.program.specs.declared.status.Status.TheVariants.{Eeprom, NotACard, NoMemory, TooLong}
use Rattle.card_run.specs.declared.words.Form.{Form}
use Rattle.card_run.specs.Beginning.{Begins, EndsUnread, LeavesUntilOpen}
use Rattle.program.specs.Numbers.{ends_as}
use Rattle.program.specs.Ends.{AllFaults, EndsBy, RunsTo, reads_all}
use Rattle.card_run.specs.Ends.{has_opened, is_of_opened}
use Rattle.line_input.specs.Reading.{longest_input}
use Rattle.eeprom.specs.Output.{Prints}

-- no count of faults rose
pub record IsQuiet (old new : AllFaults) : Type 0 where
  pub eeprom : ¬ Rose old.eeprom new.eeprom
  pub source : ¬ Rose old.source new.source
  pub outlet : ¬ Rose old.outlet new.outlet

-- the run ended so and printed the text, or there was no memory for it and nothing was printed
abbrev pub AnswersAll : Status → Status → List ℕ → Option (List ℕ) → Option (List ℕ) → Type 0
AnswersAll end status text old new = ((status ≡ end) × Prints text old new) ⊎ ((status ≡ NoMemory) × (new ≡ old))

-- Its lines made a run's status where it read its input to its end: it tells whether one was refused.
abbrev pub TellsRefusals : {S : Type 0} → Language S → (S → Bool) → S → Status → Option (List ℕ) → Option (List ℕ) → Type 0
TellsRefusals language refused state status start end =
    reads_all status ≡ true → Becomes (λ input left. status ≡ ends_as (refused (state_after language state (lines input true)))) start end

-- there was no card; or the EEPROM failed, or there was no memory to see whether there is one
abbrev pub IsWithoutCard : Status → Type 0
IsWithoutCard status = (status ≡ NotACard) ⊎ ((status ≡ NoMemory) ⊎ (status ≡ Eeprom))

-- The card of this form was opened at this database, without a fault of the EEPROM, and from this state on its run over the input ended so. Until it was open a power loss leaves what it leaves in that form.
pub record OpensAndRuns {S X : Type 0} (chip : X → Chip) (eeprom : X → ℕ) (language : Language S) (form : Form) (db : Database) (state : S) (status : Status) (input left : List ℕ) (old new : X) : Type 0 where
  pub opened : X
  pub still : (chip opened).still ≡ (chip old).still
  pub quiet : eeprom opened ≡ eeprom old
  pub opens : IfSome (chip opened).image (λ image. Opens image db)
  pub until : LeavesUntilOpen form (chip old) (chip opened)
  pub runs : RunsTo chip eeprom language state status input left opened new

-- A run over its input, of which this was and is left, of a card of so many cells that was opened over a bench, ended so. Card and bench were at one of some states, each of which is the first of a run in the language.
pub record RunsOpened {A S X : Type 0} (chip : X → Chip) (eeprom : X → ℕ) (language : Language S) (refused : S → Bool) (is_at : A → Type 0) (first : A → S) (cells : ℕ) (result : Status) (start end : Option (List ℕ)) (old new : X) (was now : AllFaults) : Type 0 where
  -- One extent says which of its lines were answered, and in which a device failed.
  pub runs : (at : A) → is_at at → Becomes (λ input left. RunsTo chip eeprom language (first at) result input left old new) start end
  pub status : is_of_opened result ≡ true
  -- Its input was read to its end, or more came than a run takes.
  pub whole : reads_all result ≡ true → Becomes (λ input left. (left ≡ []) × (length input ≤ longest_input)) start end
  pub too_long : result ≡ TooLong → Becomes (λ input left. longest_input < length input) start end
  -- It tells whether a line was refused.
  pub refusals : (at : A) → is_at at → TellsRefusals language refused (first at) result start end
  -- Each fault has its cause.
  pub ends : EndsBy result was now
  -- Nothing is written behind the card's image.
  pub behind : KeepsBehind (λ image. cells) (chip old) (chip new)

-- What a run of this form owes over the lines of its input, from the first state of a database on, that ended so, where a state of the language tells whether a line was refused so far. The source went from one state to another, and this was left in it
-- before and after; and so did the bench, a state of which tells its chip and its EEPROM's count of faults.
pub record RunsLines {S T X : Type 0} (chip : X → Chip) (eeprom : X → ℕ) (language : Language S) (refused : S → Bool) (first : Database → S) (form : Form) (status : Status) (source after : T) (start end : Option (List ℕ)) (old new : X) (was now : AllFaults) : Type 0 where
  -- Where its card was opened, and the image is told, there was a database to begin with.
  pub begins : has_opened status ≡ true → IsSome (chip old).image → (db : Database) × Begins form (chip old) db
  -- Its input was read to its end, or more came than a run takes.
  pub whole : reads_all status ≡ true → Becomes (λ input left. (left ≡ []) × (length input ≤ longest_input)) start end
  pub too_long : status ≡ TooLong → Becomes (λ input left. longest_input < length input) start end
  -- Without a fault the output is exactly the text of the lines, or memory was missing.
  pub text : (db : Database) → Begins form (chip old) db → IsQuiet was now → (input left : List ℕ) → start ≡ Some input → end ≡ Some left → length input ≤ longest_input
      → AnswersAll (ends_as (refused (state_after language (first db) (lines input true)))) status (run_text language (first db) (lines input true)) (chip old).still.given (chip new).still.given
  -- Without one a longer input is too long, or memory was missing.
  pub longer : (db : Database) → Begins form (chip old) db → IsQuiet was now → (input left : List ℕ) → start ≡ Some input → end ≡ Some left → longest_input < length input → (status ≡ TooLong) ⊎ (status ≡ NoMemory)
  pub refusals : (db : Database) → Begins form (chip old) db → TellsRefusals language refused (first db) status start end
  -- It ended before it read a line. Or else the card was opened, and one extent says which of its lines were answered and in which a device failed; by it go the end, the counts of faults, the text, the image, and what a power loss leaves at each moment.
  pub runs : (db : Database) → Begins form (chip old) db → EndsUnread form status source after (chip old) (chip new)
      ⊎ Becomes (λ input left. OpensAndRuns chip eeprom language form db (first db) status input left old new) start end
