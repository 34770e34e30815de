-- What a run of the program owes, by the form that its words ask for.
use Rattle.std.specs.Prelude.{◌≡◌, ◌⊎◌, ℕ, false, true, List, Option}
use Rattle.eeprom.specs.Chip.{Chip}
use Rattle.scql_model.specs.Lines.{command_lines}
use Rattle.scql_model.specs.Machine.{start as first_machine}
use Rattle.card.specs.Behind.{KeepsBehind}
use Rattle.program.specs.declared.status.Status.{Status}
use Rattle.program.specs.declared.status.Status.TheVariants.{NoMemory, NotACard}
use Rattle.program.specs.Ends.{AllFaults}
use Rattle.card_run.specs.declared.words.Form.{Form}
use Rattle.card_run.specs.declared.words.Form.TheVariants.{Check, Load, Migrate, Term}
use Rattle.card_run.specs.Beginning.{EndsUnread, WantsMemory}
use Rattle.card_run.specs.Behind.{run_cells}
use Rattle.card_run.specs.Checking.{Checks}
use Rattle.card_run.specs.Ends.{may_end}
use Rattle.card_run.specs.Loading.{Loads}
use Rattle.card_run.specs.Migrating.{Migrates}
use Rattle.card_run.specs.Run.{RunsLines}
use Rattle.card_run.specs.Statements.{opened, term_lines, was_refused}
use Rattle.card_run.specs.Words.{answers_commands}

-- What a run of this form owes that ended so. The source went from one state to another, and this was left in it before and after; and so did the bench, a state of which tells its chip, and the counts of faults.
pub record RunsForm {T X : Type 0} (chip : X → Chip) (eeprom : X → ℕ) (octets_read : X → Option ℕ) (form : Form) (result : Status) (source after : T) (start end : Option (List ℕ)) (old new : X) (was now : AllFaults) : Type 0 where
  -- Without memory or a card no line is read and nothing is given, and an image that was to be opened has the store that it had.
  pub unread : (result ≡ NoMemory) ⊎ (result ≡ NotACard) → EndsUnread form result source after (chip old) (chip new)
  -- Each form has its ends, whatever is told: a statement can be refused in `term` and in `load` alone, and only what reads input can end because of it.
  pub statuses : may_end form result ≡ true
  -- Memory is wanting only before the first record of the card is read.
  pub no_memory : result ≡ NoMemory → WantsMemory chip octets_read form old new
  -- A run of `new` or `apdu` answers its lines as commands, from the start of the database with which it begins.
  pub commands : answers_commands form ≡ true → RunsLines chip eeprom command_lines (λ m. false) first_machine form result source after start end old new was now
  -- A run of `term` carries out its lines as statements, from a terminal on channel 0 on, and tells whether one was refused.
  pub statements : form ≡ Term → RunsLines chip eeprom term_lines was_refused opened Term result source after start end old new was now
  -- A run of `check` reads no line, and says what the card holds.
  pub check : form ≡ Check → Checks result source after (chip old) (chip new) was now
  -- A run of `load` reads no line, runs its script, and says what came of it.
  pub load : (rows seed : ℕ) → form ≡ Load rows seed → Loads rows seed result source after (chip old) (chip new) was now
  -- A run of `migrate` reads no line.
  pub migrate : form ≡ Migrate → Migrates result source after (chip old) (chip new) was now
  -- At no moment is anything written behind the card's image, however the run ends.
  pub behind : KeepsBehind (run_cells form) (chip old) (chip new)
