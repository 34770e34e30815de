-- A run of the program is a power cycle of a card's life, whatever its form.
use Rattle.std.specs.Prelude.{◌≡◌, ◌⊎◌, ◌-◌, ℕ, Bool, true, List, [], ◌∷◌, length, Option, Some}
use Rattle.std.specs.List.{AllByRecursion}
use Rattle.eeprom.specs.Chip.{Chip, Throughout}
use Rattle.scql_model.specs.Database.{Database}
use Rattle.scql_model.specs.Joining.{joined_lines}
use Rattle.scql_model.specs.Lines.{Language, command_lines}
use Rattle.scql_model.specs.Heard.{committed_in}
use Rattle.scql_model.specs.Lives.{IsPowerCycle, PowerCycle, after_all}
use Rattle.scql_model.specs.Machine.{Machine, start}
use Rattle.scql_model.specs.Migrating.{migrate_commits, migrate_text}
use Rattle.planner.specs.StatementLines.{TerminalState}
use Rattle.terminal.specs.Holding.{terminal_at}
use Rattle.card.specs.Making.{LeavesMade}
use Rattle.program.specs.declared.status.Status.{Status}
use Rattle.card_run.specs.declared.words.Form.{Form}
use Rattle.card_run.specs.declared.words.Form.TheVariants.{New, Apdu, Term, Check, Load, Migrate}
use Rattle.card_run.specs.Ends.{ends_opening}
use Rattle.line_input.specs.declared.input.InputEnd.{InputEnd}
use Rattle.line_run.specs.declared.line_stop.LineStop.{LineStop}
use Rattle.line_run.specs.Extent.{AreTaken, IsSaid, IsWithin, carried_out, stopped_in}
use Rattle.eeprom.specs.Output.{Prints}
use Rattle.card_run.specs.Loading.{script_lines}
use Rattle.card_run.specs.Selecting.{TermLinesSelectShown}
use Rattle.card_run.specs.Showing.{LinesReadShown}
use Rattle.card_run.specs.Statements.{Sitting, opened, term_lines}
use Rattle.program.specs.Numbers.{status_at, status_of}

-- The languages of the forms, as one.

-- a migration counts as a line
abbrev pub migrate_lines : Language Machine
migrate_lines = record {
  machine = λ m. m;
  effect = λ m line. record { text = migrate_text m.committed; next = start (after_all m.committed (migrate_commits m.committed)); commits = migrate_commits m.committed; faulty = [] ∷ [] };
}

-- the states of the lines of a form; those of `check`, which has no lines, are as those of commands
abbrev pub StateOf : Form → Type 0
StateOf (New n) = Machine
StateOf Apdu = Machine
StateOf Term = Sitting
StateOf Check = Machine
StateOf (Load rows seed) = TerminalState
StateOf Migrate = Machine

-- what the lines of a form do: a script counts as one line, and so does a migration
abbrev pub lines_of : (form : Form) → Language (StateOf form)
lines_of (New n) = command_lines
lines_of Apdu = command_lines
lines_of Term = term_lines
lines_of Check = command_lines
lines_of (Load rows seed) = script_lines rows seed
lines_of Migrate = migrate_lines

-- the state of a card that was just opened with a database
abbrev pub first_state : (form : Form) → Database → StateOf form
first_state (New n) db = start db
first_state Apdu db = start db
first_state Term db = opened db
first_state Check db = start db
first_state (Load rows seed) db = terminal_at (start db) 0
first_state Migrate db = start db

-- the language of the program: a state is one of some form, and lines are that one's
abbrev pub CardState : Type 0
CardState = (form : Form) × StateOf form

abbrev pub card_lines : Language CardState
card_lines = joined_lines lines_of

-- Runs as power cycles.

-- The lines that a run of this form took that ended so, where this is left of its input: `check` takes none, and a script and a migration are one.
abbrev pub AreRead : Form → Status → List ℕ → List ℕ → List (List ℕ) → Type 0
AreRead Check status input left lines = lines ≡ []
AreRead (Load rows seed) status input left lines = lines ≡ [] ∷ []
AreRead Migrate status input left lines = lines ≡ [] ∷ []
AreRead form status input left lines = (end : InputEnd LineStop) × (refused : Bool) × (status ≡ status_at end refused) × AreTaken end input left lines

-- the lines of a power cycle in such a run: none where its card wasn't opened, and else those that it took
abbrev pub AreLinesOf : Form → Status → List ℕ → List ℕ → List (List ℕ) → Type 0
AreLinesOf form status input left lines = ((ends_opening status ≡ true) × (lines ≡ [])) ⊎ AreRead form status input left lines

-- The run stopped in one of these lines, behind others that were answered, as its end and its text tell; and clean are those that were carried out.
pub record StopsIn (form : Form) (db : Database) (status : Status) (lines : List (List ℕ)) (clean : ℕ) (before now : Option (List ℕ)) : Type 0 where
  pub stop : LineStop
  pub answered : List (List ℕ)
  pub line : List ℕ
  pub within : IsWithin (stopped_in stop answered line) lines
  pub ends : status ≡ status_of stop
  pub count : clean ≡ carried_out (stopped_in stop answered line) lines
  pub text : (said : List ℕ) × IsSaid (lines_of form) (first_state form db) (stopped_in stop answered line) lines said × Prints said before now

-- So many lines of a power cycle are clean: all, or those that were carried out before the run stopped in one.
abbrev pub AreClean : Form → Database → Status → List (List ℕ) → ℕ → Option (List ℕ) → Option (List ℕ) → Type 0
AreClean form db status lines clean before now = (clean ≡ length lines) ⊎ StopsIn form db status lines clean before now

-- Where power is lost in a run of this form, which began with this database over this image, while the mark is g, and leaves this image: it was a power cycle of these lines, of which the first so many are clean.
abbrev pub IsCycleAt : Form → Database → List (List ℕ) → ℕ → List ℕ → ℕ → ℕ → List ℕ → Type 0
IsCycleAt form db lines clean image mark g left =
    IsPowerCycle card_lines image (record { first = (form, first_state form db); lines = lines; clean = clean; given = g - mark; left = left })

-- From old on to new a run of this form is a power cycle of the same lines at each moment, whether power is lost at it or not: the last one is its end.
pub record IsCycle (form : Form) (db : Database) (status : Status) (input left : List ℕ) (image : List ℕ) (old new : Chip) : Type 0 where
  pub lines : List (List ℕ)
  pub are : AreLinesOf form status input left lines
  pub clean : ℕ
  pub are_clean : AreClean form db status lines clean old.still.given new.still.given
  pub moments : Throughout old new (IsCycleAt form db lines clean image old.still.mark)

-- A run of `new` makes its card, and its power cycle is over the image that it made; or its card wasn't opened.
pub record MakesAndLives (n : ℕ) (db : Database) (status : Status) (input left : List ℕ) (old new : Chip) : Type 0 where
  pub opened : Chip
  pub made : LeavesMade n old opened
  pub lives : (image : List ℕ) → opened.image ≡ Some image → IsCycle (New n) db status input left image opened new

-- From a card that was just opened with this database on, each line that is a reading command or a SELECT is answered by what is shown to its channel.
pub record ReadsFrom (db : Database) : Type 0 where
  pub commands : LinesReadShown (start db)
  pub statements : TermLinesSelectShown (opened db)

-- so it is in each of these power cycles
abbrev pub ReadInEach : List (PowerCycle CardState) → Type 0
ReadInEach cycles = AllByRecursion (λ (cycle : PowerCycle CardState). ReadsFrom (committed_in card_lines cycle.first)) cycles
