-- A run over the queries of a user: the user is presented, and then the lines are answered, or the refusal is told.
use Rattle.std.specs.Prelude.{◌≡◌, ◌⊎◌, ℕ, ◌≤◌, true, false, List, [], length, Option, IsSome}
use Rattle.eeprom.specs.Chip.{Becomes, Chip, Throughout}
use Rattle.eeprom.specs.Output.{Prints}
use Rattle.scql_base.specs.declared.words.StatusWord.{StatusWord}
use Rattle.scql_model.specs.Database.{Database}
use Rattle.scql_model.specs.Machine.{Machine, start}
use Rattle.scql_model.specs.Opens.{Opens}
use Rattle.scql_model.specs.Step.{Answer}
use Rattle.line_input.specs.Reading.{longest_input}
use Rattle.planner.specs.declared.closing.Closing.TheVariants as closings
use Rattle.planner.specs.Text.{closing_text}
use Rattle.planner.specs.Words.{is_done}
use Rattle.card_asking.specs.Presenting.{presented}
use Rattle.terminal.specs.Failing.{IsStart}
use Rattle.record_store.specs.Recovery.{KeepsStore}
use Rattle.program.specs.declared.status.Status.{Status}
use Rattle.program.specs.declared.status.Status.TheVariants.{Refused, Eeprom, WriteFault, NoMemory}
use Rattle.program.specs.Ends.{RunsTo, reads_all}
use Rattle.query_run.specs.QueryLines.{query_lines}
use Rattle.query_run.specs.Running.{PrintsQueries}

-- A refusal was printed; or a start of it, where the outlet failed.
abbrev pub TellsRefusal : StatusWord → Status → Option (List ℕ) → Option (List ℕ) → Type 0
TellsRefusal word Refused before now = Prints (closing_text (closings.Refused word)) before now
TellsRefusal word WriteFault before now = IsStart (closing_text (closings.Refused word)) before now
TellsRefusal word status before now = ⊥

-- The user was refused, and no line was read.
pub record IsRefused {T : Type 0} (answer : Answer) (status : Status) (source after : T) (before now : Option (List ℕ)) : Type 0 where
  pub refused : is_done answer.reply.word ≡ false
  pub unread : after ≡ source
  pub told : TellsRefusal answer.reply.word status before now

-- The card failed before a line was read, and nothing was printed.
pub record IsMute {T : Type 0} (status : Status) (source after : T) (before now : Option (List ℕ)) : Type 0 where
  pub ends : status ≡ Eeprom
  pub unread : after ≡ source
  pub silent : now ≡ before

-- The user was presented, without a text or a fault, and from there on the lines were answered.
pub record IsPresented {X : Type 0} (chip : X → Chip) (eeprom : X → ℕ) (answer : Answer) (status : Status) (start end : Option (List ℕ)) (old new : X) : Type 0 where
  pub done : is_done answer.reply.word ≡ true
  pub first : X
  pub silent : (chip first).still.given ≡ (chip old).still.given
  pub quiet : eeprom first ≡ eeprom old
  pub runs : Becomes (λ input left. RunsTo chip eeprom query_lines (record { machine = answer.machine; refused = false }) status input left first new) start end

-- So a run ended in which PRESENT USER has this answer.
abbrev pub AnswersFor : {X T : Type 0} → (X → Chip) → (X → ℕ) → Answer → Status → T → T → Option (List ℕ) → Option (List ℕ) → X → X → Type 0
AnswersFor chip eeprom answer status source after start end old new =
    IsMute status source after (chip old).still.given (chip new).still.given
    ⊎ (IsRefused answer status source after (chip old).still.given (chip new).still.given
    ⊎ IsPresented chip eeprom answer status start end old new)

-- What is printed in it, where no device failed: the text of each line, from what is shown to channel 0 behind PRESENT USER; or its refusal alone, and no line is read.
abbrev pub PrintsFor : {T : Type 0} → Answer → Status → T → T → Option (List ℕ) → Option (List ℕ) → Option (List ℕ) → Option (List ℕ) → Type 0
PrintsFor answer status source after start end before now =
    ((is_done answer.reply.word ≡ true) × Becomes (λ input left. PrintsQueries answer.machine input status before now) start end)
    ⊎ ((is_done answer.reply.word ≡ false) × (status ≡ Refused) × (after ≡ source) × Prints (closing_text (closings.Refused answer.reply.word)) before now)

-- The input was read to its end; or none of it was, and a refusal was told.
abbrev pub ReadsAll : {T : Type 0} → Status → T → T → Option (List ℕ) → Option (List ℕ) → Option (List ℕ) → Option (List ℕ) → Type 0
ReadsAll status source after start end before now =
    Becomes (λ input left. (left ≡ []) × (length input ≤ longest_input)) start end ⊎ ((word : StatusWord) × (after ≡ source) × TellsRefusal word status before now)

-- At each moment of it the image opens to this database.
abbrev pub StaysOpen : Database → Chip → Chip → Type 0
StaysOpen db old new = Throughout old new (λ g image. Opens image db)

-- A run ended so for a user who was presented on a card at this machine.
pub record AnswersUser {X T : Type 0} (chip : X → Chip) (eeprom : X → ℕ) (left : T → Option (List ℕ)) (m : Machine) (user : List ℕ) (status : Status) (source after : T) (old new : X) : Type 0 where
  -- From there on the lines were answered; or the card failed before, or the refusal was told.
  pub runs : AnswersFor chip eeprom (presented m user) status source after (left source) (left after) old new
  -- Where it read its input to its end, or the user was refused, each line printed what follows from what the user's channel is shown; or that refusal alone was printed.
  pub prints : reads_all status ≡ true → PrintsFor (presented m user) status source after (left source) (left after) (chip old).still.given (chip new).still.given
  -- At each moment the image opens to what it opened to, where it is told what was given and what is left of the input.
  pub stays : IsSome (chip new).still.given → IsSome (left after) → StaysOpen m.committed (chip old) (chip new)

-- The card wasn't opened: no line was read, nothing was given, and the image has the store that it had.
pub record IsUnopened {T : Type 0} (source after : T) (old new : Chip) : Type 0 where
  pub unread : after ≡ source
  pub silent : new.still.given ≡ old.still.given
  pub keeps : KeepsStore old new

-- The EEPROM failed as the card was opened, or there was no memory for it.
abbrev pub IsWithout : Status → Type 0
IsWithout status = (status ≡ NoMemory) ⊎ (status ≡ Eeprom)

-- The card was opened at this database, without a text or a fault, and the run went on so for this user.
pub record OpensAndAnswers {X T : Type 0} (chip : X → Chip) (eeprom : X → ℕ) (db : Database) (user : List ℕ) (status : Status) (source after : T) (start' end : Option (List ℕ)) (old new : X) : Type 0 where
  pub opened : X
  pub still : (chip opened).still ≡ (chip old).still
  pub quiet : eeprom opened ≡ eeprom old
  pub keeps : KeepsStore (chip old) (chip opened)
  pub answers : AnswersFor chip eeprom (presented (start db) user) status source after start' end opened new

-- A run for a user over an EEPROM that opens to this database ended so.
abbrev pub RunsFor : {X T : Type 0} → (X → Chip) → (X → ℕ) → Database → List ℕ → Status → T → T → Option (List ℕ) → Option (List ℕ) → X → X → Type 0
RunsFor chip eeprom db user status source after start end old new =
    (IsWithout status × IsUnopened source after (chip old) (chip new)) ⊎ OpensAndAnswers chip eeprom db user status source after start end old new

-- So it ended for a user over an EEPROM that opens to this database.
pub record RunsUser {X T : Type 0} (chip : X → Chip) (eeprom : X → ℕ) (left : T → Option (List ℕ)) (db : Database) (user : List ℕ) (status : Status) (source after : T) (old new : X) : Type 0 where
  -- The card was opened at that database, the user presented, and from there on the lines answered; or it wasn't opened, for a fault or want of memory.
  pub runs : RunsFor chip eeprom db user status source after (left source) (left after) old new
  -- Where it read its input to its end, or the user was refused, each line printed what follows from what the user's channel is shown; or that refusal alone was printed.
  pub prints : reads_all status ≡ true → PrintsFor (presented (start db) user) status source after (left source) (left after) (chip old).still.given (chip new).still.given
  -- At each moment, however the run ends, the image opens to what it opened to, where it is told what was given and what is left of the input.
  pub stays : IsSome (chip new).still.given → IsSome (left after) → StaysOpen db (chip old) (chip new)
