-- How far a run of lines came, and what that says of its text, of its image and of each moment.
use Rattle.std.specs.Prelude.{◌≡◌, ℕ, ◌+◌, true, false, List, ◌∷◌, ◌++◌, length, take, Option, Some}
use Rattle.eeprom.specs.Chip.{Chip, Throughout}
use Rattle.eeprom.specs.Fault.{Rose}
use Rattle.eeprom.specs.Output.{Prints}
use Rattle.scql_model.specs.Lines.{Language, lines, line_effect, run_text, state_after}
use Rattle.scql_model.specs.Heard.{IsKept, committed_in}
use Rattle.scql_model.specs.Opens.{Opens}
use Rattle.line_input.specs.declared.input.InputEnd.{InputEnd}
use Rattle.line_input.specs.declared.input.InputEnd.TheVariants.{Ended, ReadFault, TooLong, Stopped}
use Rattle.line_input.specs.Reading.{longest_input}
use Rattle.line_run.specs.declared.line_stop.LineStop.{LineStop}
use Rattle.line_run.specs.declared.line_stop.LineStop.TheVariants.{Eeprom, Outlet, Both, NoMemory}
use Rattle.line_run.specs.CutOff.{Says, OpensBehind}
use Rattle.line_run.specs.Moments.{IfGiven}

-- A run came to the end of its lines; or, behind lines that were answered, to one in which it stopped.
pub data Extent : Type 0 where
  to_end : Extent
  stopped_in : (stop : LineStop) (answered : List (List ℕ)) (line : List ℕ) → Extent

-- it came so far in these lines
abbrev pub IsWithin : Extent → List (List ℕ) → Type 0
IsWithin to_end lines = Unit {0}
IsWithin (stopped_in stop answered line) lines = (rest : List (List ℕ)) × (lines ≡ answered ++ line ∷ rest)

-- how many lines were carried out: all; or those before the one in which the run stopped, and that one too where the outlet alone failed
abbrev pub carried_out : Extent → List (List ℕ) → ℕ
carried_out to_end lines = length lines
carried_out (stopped_in Outlet answered line) lines = length answered + 1
carried_out (stopped_in stop answered line) lines = length answered

-- what was said: the text of the lines that were answered, and behind it what is said of a line in which a run stops
abbrev pub IsSaid : {S : Type 0} → Language S → S → Extent → List (List ℕ) → List ℕ → Type 0
IsSaid language state to_end lines said = said ≡ run_text language state lines
IsSaid language state (stopped_in stop answered line) lines said =
    (last : List ℕ) × Says stop (line_effect language (state_after language state answered) line) last × (said ≡ run_text language state answered ++ last)

-- to what the image opens: to the database after the lines, or to what is left behind a line in which a run stops
abbrev pub OpensAfter : {S : Type 0} → Language S → S → Extent → List (List ℕ) → List ℕ → Type 0
OpensAfter language state to_end lines image = Opens image (committed_in language (state_after language state lines))
OpensAfter language state (stopped_in stop answered line) lines image =
    (let at = state_after language state answered in OpensBehind stop language at (line_effect language at line) image)

-- At each moment from old on to new a power loss leaves what is kept of these lines, of which the first so many are clean: those that were carried out without a fault of the EEPROM. The octets that have gone out count from old on.
abbrev pub AreKept : {S : Type 0} → Language S → S → List (List ℕ) → ℕ → Chip → Chip → Type 0
AreKept language state lines clean old new = Throughout old new (λ g image. (out : ℕ) × (g ≡ old.still.mark + out) × IsKept language state lines clean out image)

-- A run of these lines from a state on came so far. By that one extent go what was said behind what had been given before, to what the image opens, and what a power loss leaves at each moment.
pub record Runs {S : Type 0} (language : Language S) (state : S) (lines : List (List ℕ)) (extent : Extent) (old new : Chip) : Type 0 where
  pub within : IsWithin extent lines
  pub text : (said : List ℕ) × IsSaid language state extent lines said × Prints said old.still.given new.still.given
  pub image : (image : List ℕ) → new.image ≡ Some image → OpensAfter language state extent lines image
  pub moments : IfGiven new (AreKept language state lines (carried_out extent lines) old new)

-- The lines of a run over its input that ends so, where this is left of it: all; or the whole ones of what had come when the source failed, or within the longest input.
abbrev pub AreTaken : InputEnd LineStop → List ℕ → List ℕ → List (List ℕ) → Type 0
AreTaken Ended input left taken = taken ≡ lines input true
AreTaken ReadFault input left taken = (octets : List ℕ) × (input ≡ octets ++ left) × (taken ≡ lines octets false)
AreTaken TooLong input left taken = taken ≡ lines (take longest_input input) false
AreTaken (Stopped stop) input left taken = taken ≡ lines input true

-- the EEPROM's count of faults goes from one number to another: it rises where the EEPROM failed, and else it stays
abbrev pub CountsAt : LineStop → ℕ → ℕ → Type 0
CountsAt Eeprom from to = Rose from to
CountsAt Outlet from to = to ≡ from
CountsAt Both from to = Rose from to
CountsAt NoMemory from to = to ≡ from

-- A line was begun at this state of a bench: the EEPROM's count of faults was this number, this text had been said behind what had been given before, and the image opened to the database of this state of the language.
pub record BegunAt {S X : Type 0} (chip : X → Chip) (eeprom : X → ℕ) (language : Language S) (state : S) (said : List ℕ) (from : ℕ) (given : Option (List ℕ)) (begun : X) : Type 0 where
  pub quiet : eeprom begun ≡ from
  pub text : Prints said given (chip begun).still.given
  pub image : (image : List ℕ) → (chip begun).image ≡ Some image → Opens image (committed_in language state)

-- no line stopped it
abbrev pub IsUnstopped : InputEnd LineStop → Type 0
IsUnstopped (Stopped stop) = ⊥
IsUnstopped end = Unit {0}

-- A run from a state of a bench to another that came so far ends so. Where no line stopped it the EEPROM's count of faults stayed; and else the count stayed up to where the line was begun in which it stopped, and tells from there on why.
abbrev pub EndsAt : {S X : Type 0} → (X → Chip) → (X → ℕ) → Language S → S → Extent → InputEnd LineStop → X → X → Type 0
EndsAt chip eeprom language state to_end end old new = IsUnstopped end × (eeprom new ≡ eeprom old)
EndsAt {S} {X} chip eeprom language state (stopped_in stop answered line) end old new =
    (end ≡ Stopped stop) × (begun : X)
    × BegunAt chip eeprom language (state_after language state answered) (run_text language state answered) (eeprom old) (chip old).still.given begun × CountsAt stop (eeprom begun) (eeprom new)

-- A run over its input, of which this is left, ended so, from a state of a bench to another, each of which tells its chip and its EEPROM's count of faults.
pub record RunsInput {S X : Type 0} (chip : X → Chip) (eeprom : X → ℕ) (language : Language S) (state : S) (end : InputEnd LineStop) (input left : List ℕ) (old new : X) : Type 0 where
  pub taken : List (List ℕ)
  pub are_taken : AreTaken end input left taken
  pub extent : Extent
  pub ends : EndsAt chip eeprom language state extent end old new
  pub runs : Runs language state taken extent (chip old) (chip new)
