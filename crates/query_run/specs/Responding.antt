-- A desk with a person, which answers the lines of a run.
use Rattle.std.specs.Prelude.{◌≡◌, ℕ, Bool, Option, List, Result, OnOk, IfOk, IfErr}
use Rattle.eeprom.specs.Chip.{Chip}
use Rattle.scql_model.specs.Machine.{Machine}
use Rattle.scql_model.specs.Shown.{shown_on}
use Rattle.line_run.specs.Answering.{Answered, Failed}
use Rattle.line_run.specs.declared.line_stop.LineStop.{LineStop}
use Rattle.person.specs.Showing.{ShowsSome}
use Rattle.query_run.specs.Answering.{ShowsCounts}
use Rattle.query_run.specs.Fetching.{ReadsAs}
use Rattle.query_run.specs.QueryLines.{Asking, asked_refused, query_lines}

-- a link reads as the machine does, and a line was refused so far or none
pub record AsksSo {L : Type 0} (is_at : L → Machine → Type 0) (asking : Asking) (link : L) (refused : Bool) : Type 0 where
  pub reads : ReadsAs is_at asking.machine link
  pub tells : refused ≡ asking.refused

-- A run heard what came of a line at a state whose machine the link read as.
pub record HearsLine {L : Type 0} (is_at : L → Machine → Type 0) (chip : L → Chip) (asking : Asking) (line : Option (List ℕ)) (result : Result Bool LineStop) (old new : L) : Type 0 where
  -- It was answered, and is refused or not;
  pub answered : OnOk result (Answered query_lines asking (query_lines.effect asking line) (λ next. ReadsAs is_at next.machine new) (chip old) (chip new))
  pub refused : IfOk result (λ was. was ≡ asked_refused (shown_on asking.machine 0) line)
  -- or the run stopped in it.
  pub failed : IfErr result (λ stop. Failed stop query_lines asking (query_lines.effect asking line) (chip old) (chip new))

-- calls lead from one state of a link to another, and meanwhile one person was shown how many rows were fetched, and another some text
pub record LeadsOn {L P N : Type 0} (goes_on : L → L → Type 0) (lost : P → Bool) (shown : P → Option (List ℕ)) (missed : N → Bool) (told : N → Option (List ℕ)) (old new : L) (person after : P) (notices later : N) : Type 0 where
  pub goes : goes_on old new
  pub watches : ShowsCounts lost shown person after
  pub hears : ShowsSome missed told notices later
