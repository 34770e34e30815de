-- How a text goes out over the bench of a card.
use Rattle.std.specs.Prelude.{◌≡◌, ℕ, ◌+◌, ◌≤◌, List, length, Result, OnOk, OnErr}
use Rattle.eeprom.specs.Chip.{Chip, Gives}
use Rattle.eeprom.specs.Fault.{Counts}
use Rattle.eeprom.specs.Output.{Prints}
use Rattle.card.specs.Behind.{KeepsBehind}
use Rattle.line_run.specs.CutOff.{IsCutShort}
use Rattle.line_run.specs.Moments.{IfGiven}

-- All of it went out, or the outlet failed behind the start of it. A state of the bench tells its chip, and the counts of faults of its EEPROM and its outlet.
pub record GivesOut {X E : Type 0} (chip : X → Chip) (eeprom outlet : X → ℕ) (octets : List ℕ) (old new : X) (result : Result (Unit {0}) E) : Type 0 where
  pub text : OnOk result (Prints octets (chip old).still.given (chip new).still.given)
  pub fails : OnErr result (IsCutShort octets (chip old).still.given (chip new).still.given)
  -- Meanwhile nothing is written.
  pub image : (chip new).image ≡ (chip old).image
  pub size : (chip new).still.size ≡ (chip old).still.size
  pub gives : Gives (chip old) (chip new)
  pub behind : (cells : List ℕ → ℕ) → KeepsBehind cells (chip old) (chip new)
  -- Where what was given is told, the mark rises by each octet that goes out.
  pub mark : OnOk result (IfGiven (chip new) ((chip new).still.mark ≡ (chip old).still.mark + length octets))
  pub within : IfGiven (chip new) ((chip new).still.mark ≤ (chip old).still.mark + length octets)
  -- A fault is one of the outlet, and counted there.
  pub counts : Counts (outlet old) (outlet new) result
  pub faults : eeprom new ≡ eeprom old
