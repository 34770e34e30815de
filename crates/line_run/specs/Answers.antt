-- What becomes of a responder to which lines are handed as they are taken, from one state of it to another.
use Rattle.std.specs.Prelude.{◌≡◌, ℕ, Bool, true, List, map, Option}
use Rattle.eeprom.specs.Chip.{Chip}
use Rattle.eeprom.specs.Output.{Prints}
use Rattle.scql_model.specs.Lines.{Language, run_text, state_after, taken_line}
use Rattle.line_run.specs.declared.line_stop.LineStop.{LineStop}
use Rattle.line_run.specs.declared.line_stop.LineStop.TheVariants.{NoMemory}
use Rattle.line_run.specs.Answering.{Failed}
use Rattle.line_run.specs.Causes.{CausesStop, Faults}
use Rattle.line_run.specs.Moments.{IfGiven, Passes}

-- Lines were answered from a state on: their text was given, and the run is at the state after them.
pub record AreAnswered {S : Type 0} (language : Language S) (state : S) (lines : List (List ℕ)) (is_at : S → Type 0) (old new : Chip) : Type 0 where
  pub at : is_at (state_after language state lines)
  pub text : Prints (run_text language state lines) old.still.given new.still.given
  pub moments : IfGiven new (Passes language state lines old new)

-- Lines that are taken as these were answered, whatever state the responder was in, and it can answer more of them.
pub record AnswersLines {R S : Type 0} (language : Language S) (is_at : R → S → Type 0) (is_ready : R → Type 0) (chip : R → Chip) (faults : R → Faults) (goes_on : R → R → Type 0) (old : R) (taken : List (Option (List ℕ))) (new : R) : Type 0 where
  pub ready : is_ready new
  pub quiet : faults new ≡ faults old
  pub leads : goes_on old new
  pub from : (state : S) (lines : List (List ℕ)) → is_at old state → map taken_line lines ≡ taken → AreAnswered language state lines (is_at new) (chip old) (chip new)

-- It stopped in a line that is taken as this.
pub record StopsInLine {R S : Type 0} (language : Language S) (is_at : R → S → Type 0) (chip : R → Chip) (faults : R → Faults) (takes_memory : Bool) (goes_on : R → R → Type 0) (old : R) (taken : Option (List ℕ)) (stop : LineStop) (new : R) : Type 0 where
  pub causes : CausesStop stop (faults old) (faults new)
  pub memory : stop ≡ NoMemory → takes_memory ≡ true
  pub leads : goes_on old new
  pub failed : (state : S) → is_at old state → Failed stop language state (language.effect state taken) (chip old) (chip new)
