-- Statements as the lines of a run, which tells whether one was refused.
use Rattle.std.specs.Prelude.{◌≡◌, ℕ, ◌||◌, Bool, false, List, Option, Some, None, is_some, Result, Ok, Err, IfOk}
use Rattle.eeprom.specs.Chip.{Chip}
use Rattle.scql_model.specs.Database.{Database}
use Rattle.scql_model.specs.Lines.{Effect, Language}
use Rattle.scql_model.specs.Machine.{Machine, start}
use Rattle.script.specs.Line.{statement_of}
use Rattle.planner.specs.StatementLines.{TerminalState, statement_lines}
use Rattle.terminal.specs.declared.line_end.LineEnd.{LineEnd}
use Rattle.terminal.specs.declared.line_end.LineEnd.TheVariants as ends
use Rattle.terminal.specs.Holding.{Holding, Sits}
use Rattle.terminal.specs.declared.refusal.Refusal.{Refusal}
use Rattle.terminal.specs.declared.refusal.Refusal.TheVariants.{TooLong}
use Rattle.terminal.specs.Line.{refusal_in}
use Rattle.person.specs.Showing.{ShowsSome}
use Rattle.line_run.specs.declared.line_stop.LineStop.{LineStop}
use Rattle.line_run.specs.declared.line_stop.LineStop.TheVariants.{Eeprom, Outlet}
use Rattle.card_run.specs.Commands.{EndsLine}

-- where the terminal of a run is, and whether a line was refused so far
pub record Sitting : Type 0 where
  pub at : TerminalState
  pub refused : Bool

-- why a line is refused, if it is: one that is too long, and any other one where its closing line is a refusal or an error
abbrev pub refusal_at : TerminalState → Option (List ℕ) → Option Refusal
refusal_at state None = Some TooLong
refusal_at state (Some line) = refusal_in state (statement_of line)

abbrev pub is_refused : TerminalState → Option (List ℕ) → Bool
is_refused state line = is_some (refusal_at state line)

-- what a line does
abbrev pub goes_on_so : Effect TerminalState → Bool → Effect Sitting
goes_on_so does refused = record { text = does.text; next = record { at = does.next; refused = refused }; commits = does.commits; faulty = does.faulty }

-- the language of statements
abbrev pub term_lines : Language Sitting
term_lines = record {
  machine = λ sitting. sitting.at.machine;
  effect = λ sitting line. goes_on_so (statement_lines.effect sitting.at line) (sitting.refused || is_refused sitting.at line);
}

-- a terminal on channel 0 of a card that is opened with a database
abbrev pub opened : Database → Sitting
opened db = record { at = record { machine = start db; channel = 0 }; refused = false }

abbrev pub was_refused : Sitting → Bool
was_refused sitting = sitting.refused

-- a terminal with its link, where a line was refused so far or none
pub record SitsSo {L : Type 0} (is_at : L → Machine → Type 0) (holding : Holding) (link : L) (refused : Bool) (sitting : Sitting) : Type 0 where
  pub sits : Sits is_at sitting.at holding link
  pub tells : refused ≡ sitting.refused

-- why a line was refused, if it was, by how it ended; or which device failed in it
abbrev pub heard_as : LineEnd → Result (Option Refusal) LineStop
heard_as ends.Answered = Ok None
heard_as (ends.Refused why) = Ok (Some why)
heard_as ends.Mute = Err Eeprom
heard_as ends.SinkFault = Err Outlet

-- A line of a terminal in this sitting ended so, and where it was answered it is told why it was refused, if it was.
pub record EndsStatement (sitting : Sitting) (line : Option (List ℕ)) (is_at : Sitting → Type 0) (old new : Chip) (result : Result (Option Refusal) LineStop) : Type 0 where
  pub ends : EndsLine term_lines sitting (term_lines.effect sitting line) is_at old new result
  pub refusal : IfOk result (λ refusal. refusal ≡ refusal_at sitting.at line)

-- A person was greeted over this bench: it stays, and some text was shown.
pub record Greets {X P : Type 0} (lost : P → Bool) (shown : P → Option (List ℕ)) (old new : X) (person after : P) : Type 0 where
  pub same : new ≡ old
  pub told : ShowsSome lost shown person after
