-- Moments of a run: where in it power is lost, and what the EEPROM then holds.
use Rattle.std.specs.Prelude.{◌≡◌, ◌⊎◌, ℕ, ◌+◌, ◌<◌, ◌≤◌, List, ◌∷◌, ◌++◌, length, IsSome}
use Rattle.eeprom.specs.Chip.{Chip, Throughout}
use Rattle.scql_model.specs.Lines.{Effect, Language, line_effect, run_text, state_after}
use Rattle.scql_model.specs.Heard.{committed_in}
use Rattle.scql_model.specs.Opens.{Opens, OpensToOneOf}
use Rattle.line_run.specs.declared.line_stop.LineStop.{LineStop}
use Rattle.line_run.specs.declared.line_stop.LineStop.TheVariants.{Outlet, NoMemory}

-- In a line that was begun at this mark: the image opens to the database before it, or to one that it commits.
pub record IsInLine {S : Type 0} (language : Language S) (state : S) (does : Effect S) (mark g : ℕ) (image : List ℕ) : Type 0 where
  pub later : mark ≤ g
  pub opens : OpensToOneOf (committed_in language state ∷ does.commits) image

-- In a line that is answered: at most its text has gone out, and the first octet of it not before all that the line commits.
pub record IsInAnswered {S : Type 0} (language : Language S) (state : S) (does : Effect S) (mark g : ℕ) (image : List ℕ) : Type 0 where
  pub line : IsInLine language state does mark g image
  pub within : g ≤ mark + length does.text
  pub done : mark < g → Opens image (committed_in language does.next)

-- In a line in which a run stops: it was carried out where the outlet alone failed, and where there was no memory for it nothing is done or given.
abbrev pub IsInStopped : {S : Type 0} → LineStop → Language S → S → Effect S → ℕ → ℕ → List ℕ → Type 0
IsInStopped Outlet language state does mark g image = IsInAnswered language state does mark g image
IsInStopped NoMemory language state does mark g image = (g ≡ mark) × Opens image (committed_in language state)
IsInStopped stop language state does mark g image = IsInLine language state does mark g image

-- An answer raised the mark by its text.
pub record IsAnswered {S : Type 0} (language : Language S) (state : S) (does : Effect S) (old new : Chip) : Type 0 where
  pub mark : new.still.mark ≡ old.still.mark + length does.text
  pub moments : Throughout old new (IsInAnswered language state does old.still.mark)

-- Between two lines, before the first, or behind the last one: the image opens to the database of the state there.
pub record IsBetween {S : Type 0} (language : Language S) (state : S) (lines : List (List ℕ)) (mark g : ℕ) (image : List ℕ) : Type 0 where
  pub before : List (List ℕ)
  pub rest : List (List ℕ)
  pub split : lines ≡ before ++ rest
  pub mark_is : g ≡ mark + length (run_text language state before)
  pub opens : Opens image (committed_in language (state_after language state before))

-- in one of the lines
pub record IsWithinOne {S : Type 0} (language : Language S) (state : S) (lines : List (List ℕ)) (mark g : ℕ) (image : List ℕ) : Type 0 where
  pub before : List (List ℕ)
  pub line : List ℕ
  pub rest : List (List ℕ)
  pub split : lines ≡ before ++ line ∷ rest
  pub answered : (let at = state_after language state before in IsInAnswered language at (line_effect language at line) (mark + length (run_text language state before)) g image)

-- while lines are answered
abbrev pub IsAmong : {S : Type 0} → Language S → S → List (List ℕ) → ℕ → ℕ → List ℕ → Type 0
IsAmong language state lines mark g image = IsBetween language state lines mark g image ⊎ IsWithinOne language state lines mark g image

-- Lines that are answered raise the mark by their text.
pub record Passes {S : Type 0} (language : Language S) (state : S) (lines : List (List ℕ)) (old new : Chip) : Type 0 where
  pub mark : new.still.mark ≡ old.still.mark + length (run_text language state lines)
  pub moments : Throughout old new (IsAmong language state lines old.still.mark)

-- where what was given is told
abbrev pub IfGiven : Chip → Type 0 → Type 0
IfGiven now P = IsSome now.still.given → P
