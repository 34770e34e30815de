-- What answering a line makes of a run.
use Rattle.std.specs.Prelude.{◌≡◌, List, [], ℕ, Some}
use Rattle.eeprom.specs.Chip.{Chip, Throughout}
use Rattle.eeprom.specs.Output.{Prints}
use Rattle.scql_model.specs.Lines.{Effect, Language}
use Rattle.scql_model.specs.Heard.{committed_in}
use Rattle.scql_model.specs.Opens.{Opens}
use Rattle.line_run.specs.declared.line_stop.LineStop.{LineStop}
use Rattle.line_run.specs.CutOff.{FailsIn}
use Rattle.line_run.specs.Moments.{IsAnswered, IsInStopped, IfGiven}

-- A line that does this was answered: its text was given, and the run is at the state after it. At each moment a power loss leaves what the line commits, all of it once an octet of its text has gone out.
pub record Answered {S : Type 0} (language : Language S) (state : S) (does : Effect S) (is_at : S → Type 0) (old new : Chip) : Type 0 where
  pub at : is_at does.next
  pub text : Prints does.text old.still.given new.still.given
  pub moments : IfGiven new (IsAnswered language state does old new)

-- A run stopped in it. At each moment a power loss leaves what it leaves in a line that is answered, where the outlet alone failed; the database before the line where there was no memory for it; and else that one, or one that it commits.
pub record Failed {S : Type 0} (stop : LineStop) (language : Language S) (state : S) (does : Effect S) (old new : Chip) : Type 0 where
  pub fails : FailsIn stop language [] state does old.still.given new
  pub moments : IfGiven new (Throughout old new (IsInStopped stop language state does old.still.mark))

-- the image opens to the database of a state where the run is in it
abbrev pub OpensToState : {S : Type 0} → Language S → (S → Type 0) → Chip → Type 0
OpensToState {S} language at chip = (state : S) → at state → (image : List ℕ) → chip.image ≡ Some image → Opens image (committed_in language state)
