-- A run of `load`: the lines of a script are carried out and not printed, and then one text goes out.
use Rattle.std.specs.Prelude.{◌≡◌, ◌⊎◌, ℕ, ◌+◌, ◌≤◌, nat_lt, Bool, true, false, List, [], ◌∷◌, length, IsSome, IfSome, IsTrue, Result, OnOk, OnErr}
use Rattle.std.specs.List.{count_by}
use Rattle.eeprom.specs.Chip.{Chip, Throughout}
use Rattle.eeprom.specs.Fault.{Rose}
use Rattle.record_store.specs.Recovery.{KeepsStore}
use Rattle.scql_model.specs.Database.{Database}
use Rattle.scql_model.specs.Heard.{commits_of}
use Rattle.scql_model.specs.Lines.{Effect, Language, state_after}
use Rattle.scql_model.specs.Machine.{start}
use Rattle.scql_model.specs.Opens.{Opens, OpensToOneOf}
use Rattle.card.specs.LiveCard.{IsReadyAt, LastsOn, OnBench}
use Rattle.planner.specs.StatementLines.{TerminalState, statement_lines}
use Rattle.terminal.specs.Holding.{Holding, Sits, terminal_at}
use Rattle.terminal.specs.Load.{closings, is_refused, load_counts, load_script, load_text, script_text}
use Rattle.program.specs.declared.status.Status.{Status}
use Rattle.program.specs.declared.status.Status.TheVariants.{Done, Refused, Eeprom as EepromFault, WriteFault}
use Rattle.line_run.specs.declared.line_stop.LineStop.TheVariants.{Eeprom, Outlet}
use Rattle.card_run.specs.declared.progress.Progress.{Progress}
use Rattle.card_run.specs.declared.words.Form.TheVariants.{Load}
use Rattle.line_run.specs.Answering.{Failed}
use Rattle.card_run.specs.Beginning.{EndsUnread}
use Rattle.card.specs.Opened.{IsOpenTo}
use Rattle.program.specs.Numbers.{ends_as}
use Rattle.program.specs.Ends.{AllFaults}
use Rattle.card_run.specs.Ends.{has_opened}
use Rattle.line_run.specs.Moments.{IfGiven, IsAnswered}
use Rattle.card_run.specs.Run.{AnswersAll, IsQuiet}
use Rattle.card_run.specs.Watching.{none_yet}
use Rattle.eeprom.specs.Output.{Prints}

-- Lines that are carried out.

-- a terminal with its card, and how many statements were refused so far
pub record Loader (B : Type 0) : Type 0 where
  pub terminal : Holding
  pub card : OnBench B
  pub refused : ℕ

-- the terminal is in this state
abbrev pub IsIn : {B : Type 0} → (B → Chip) → TerminalState → Loader B → Type 0
IsIn chip state loader = Sits (λ l m. IsReadyAt l.card (chip l.bench) m) state loader.terminal loader.card

-- Rows may be loaded: the card still answers, at most so many statements were refused so far, and nothing is counted yet.
pub record MayLoad (most : ℕ) (answers : Bool) (so_far : ℕ) (counted : Progress) : Type 0 where
  pub live : IsTrue answers
  pub few : so_far ≤ most
  pub unshown : counted ≡ none_yet

-- how many of these lines are refused
abbrev pub refused_in : TerminalState → List (List ℕ) → ℕ
refused_in state lines = count_by is_refused (closings state lines)

-- nothing was printed meanwhile, and the image opens to the database before these lines or to one that they commit
abbrev pub IsInLines : TerminalState → List (List ℕ) → ℕ → ℕ → List ℕ → Type 0
IsInLines state lines mark g image = (g ≡ mark) × OpensToOneOf (state.machine.committed ∷ commits_of statement_lines state lines) image

-- What lines leave, carried out or not to their end: nothing was given, and at each moment a power loss leaves the database before them or one that they commit.
pub record PassesLines {B : Type 0} (chip : B → Chip) (lines : List (List ℕ)) (old new : Loader B) : Type 0 where
  pub still : (chip new.card.bench).still ≡ (chip old.card.bench).still
  pub lasts : LastsOn chip old.card new.card
  pub moments : (state : TerminalState) → IsIn chip state old → Throughout (chip old.card.bench) (chip new.card.bench) (IsInLines state lines (chip old.card.bench).still.mark)

-- They were carried out, and those that were refused were counted.
pub record CarriesOut {B : Type 0} (chip : B → Chip) (faults : B → ℕ) (lines : List (List ℕ)) (old new : Loader B) : Type 0 where
  pub passes : PassesLines chip lines old new
  pub live : IsTrue new.card.card.live
  pub faults_same : faults new.card.bench ≡ faults old.card.bench
  pub most : new.refused ≤ old.refused + length lines
  pub at : (state : TerminalState) → IsIn chip state old → IsIn chip (state_after statement_lines state lines) new
  pub refused : (state : TerminalState) → IsIn chip state old → new.refused ≡ old.refused + refused_in state lines

-- The EEPROM failed in one of them.
pub record FailsAmong {B : Type 0} (chip : B → Chip) (faults : B → ℕ) (lines : List (List ℕ)) (old new : Loader B) : Type 0 where
  pub passes : PassesLines chip lines old new
  pub rose : Rose (faults old.card.bench) (faults new.card.bench)

-- They were carried out, or the EEPROM failed in one of them.
pub record EndsLines {B T E : Type 0} (chip : B → Chip) (faults : B → ℕ) (lines : List (List ℕ)) (old new : Loader B) (result : Result T E) : Type 0 where
  pub carried : OnOk result (CarriesOut chip faults lines old new)
  pub failed : OnErr result (FailsAmong chip faults lines old new)

-- The script, which counts as one line.

-- what it does
abbrev pub script_effect : ℕ → ℕ → TerminalState → Effect TerminalState
script_effect k seed state = record {
  text = script_text state k seed;
  next = state_after statement_lines state (load_script k seed);
  commits = commits_of statement_lines state (load_script k seed);
  faulty = [] ∷ [];
}

abbrev pub script_lines : ℕ → ℕ → Language TerminalState
script_lines k seed = record { machine = λ state. state.machine; effect = λ state line. script_effect k seed state }

-- whether one of its statements is refused
abbrev pub script_refused : ℕ → ℕ → TerminalState → Bool
script_refused k seed state = nat_lt 0 (load_counts state k seed).refused

-- It was carried out, and its text was given. At each moment a power loss leaves the database before it or one that it commits, the last one once an octet of the text has gone out.
pub record IsLoaded (k seed : ℕ) (state : TerminalState) (old new : Chip) : Type 0 where
  pub text : Prints (script_effect k seed state).text old.still.given new.still.given
  pub image : IfSome new.image (λ image. Opens image (script_effect k seed state).next.machine.committed)
  pub moments : IfGiven new (IsAnswered (script_lines k seed) state (script_effect k seed state) old new)

-- How a load ends so, where the EEPROM's count of faults goes from one number to another: with its text, and refused where a statement was; or with the start of it, where the outlet alone fails; or without it, where the EEPROM fails.
abbrev pub LoadsTo : ℕ → ℕ → Status → TerminalState → ℕ → ℕ → Chip → Chip → Type 0
LoadsTo k seed Done state from to old new = IsLoaded k seed state old new × (script_refused k seed state ≡ false)
LoadsTo k seed Refused state from to old new = IsLoaded k seed state old new × (script_refused k seed state ≡ true)
LoadsTo k seed WriteFault state from to old new = Failed Outlet (script_lines k seed) state (script_effect k seed state) old new × (to ≡ from)
LoadsTo k seed EepromFault state from to old new = Failed Eeprom (script_lines k seed) state (script_effect k seed state) old new
LoadsTo k seed status state from to old new = ⊥

-- The card was opened at this database, and loaded then.
pub record OpensAndLoads (k seed : ℕ) (db : Database) (status : Status) (from to : ℕ) (old new : Chip) : Type 0 where
  pub opened : Chip
  pub until : KeepsStore old opened
  pub opens : IfSome opened.image (λ image. Opens image db)
  pub loads : LoadsTo k seed status (terminal_at (start db) 0) from to opened new

-- What a run of `load` owes that ended so.
pub record Loads {S : Type 0} (k seed : ℕ) (status : Status) (before after : S) (old new : Chip) (was now : AllFaults) : Type 0 where
  -- It reads no input.
  pub source : after ≡ before
  -- Where it came to its text, a database was there.
  pub begins : has_opened status ≡ true → IsSome old.image → (db : Database) × IsOpenTo old db
  -- Without a fault the output is exactly its text, and the run tells whether a statement was refused; or memory was missing.
  pub text : (db : Database) → IsOpenTo old db → IsQuiet was now → AnswersAll (ends_as (script_refused k seed (terminal_at (start db) 0))) status (load_text db k seed) old.still.given new.still.given
  -- Its card wasn't opened, or it was, and by the script go the end, the text, the image, and what a power loss leaves at each moment.
  pub runs : (db : Database) → IsOpenTo old db → EndsUnread (Load k seed) status before after old new ⊎ OpensAndLoads k seed db status was.eeprom now.eeprom old new
