-- How the lines of a source were answered, from its beginning on.
use Rattle.std.specs.Prelude.{◌≡◌, ◌⊎◌, ℕ, ◌<◌, ◌≤◌, true, false, List, [], ◌∷◌, ◌++◌, length, Option}
use Rattle.eeprom.specs.Chip.{Becomes}
use Rattle.eeprom.specs.Fault.{Rose}
use Rattle.scql_model.specs.Lines.{taken_line}
use Rattle.line_input.specs.declared.input.InputEnd.{InputEnd}
use Rattle.line_input.specs.declared.input.InputEnd.TheVariants.{Ended, ReadFault, TooLong, Stopped}
use Rattle.line_input.specs.Cutting.{open_end, taken_lines}

-- how many octets of input are taken
abbrev pub longest_input : ℕ
longest_input = 67108864

-- The answerer stopped in the line that has begun behind these octets: a line feed ended it, or the input did.
pub record StopsIn {A E : Type 0} (answers : A → List (Option (List ℕ)) → A → Type 0) (stops : A → Option (List ℕ) → E → A → Type 0) (stop : E) (octets : List ℕ) (old new : A) : Type 0 where
  pub mid : A
  pub answered : answers old (taken_lines octets false) mid
  pub stopped : stops mid (taken_line (open_end octets)) stop new

-- Behind these octets of an input its end came, where an octet stands behind the last line feed; or a line feed, and of what follows this is left.
abbrev pub IsCutShort : List ℕ → List ℕ → List ℕ → Type 0
IsCutShort octets input left = (input ≡ octets) × (left ≡ []) × (0 < length (open_end octets)) ⊎ ((rest : List ℕ) × (input ≡ octets ++ 0x0A ∷ (rest ++ left)))

-- Which lines were answered, of which octets: of those that the source had, where it tells them.
abbrev pub IsRead : {A E : Type 0} → (A → List (Option (List ℕ)) → A → Type 0) → (A → Option (List ℕ) → E → A → Type 0) → InputEnd E → A → A → Option (List ℕ) → Option (List ℕ) → Type 0
IsRead answers stops Ended old new start now =
    (octets : List ℕ) × answers old (taken_lines octets true) new × (length octets ≤ longest_input) × Becomes (λ input left. (input ≡ octets) × (left ≡ [])) start now
IsRead answers stops ReadFault old new start now =
    (octets : List ℕ) × answers old (taken_lines octets false) new × (length octets ≤ longest_input) × Becomes (λ input left. input ≡ octets ++ left) start now
IsRead answers stops TooLong old new start now =
    (octets : List ℕ) × answers old (taken_lines octets false) new × (length octets ≡ longest_input) × Becomes (λ input left. (more : List ℕ) × (input ≡ octets ++ (more ++ left)) × (0 < length more)) start now
IsRead answers stops (Stopped stop) old new start now =
    (octets : List ℕ) × StopsIn answers stops stop octets old new × (length octets ≤ longest_input) × Becomes (IsCutShort octets) start now

-- the source failed exactly where the end says so
abbrev pub CountsSource : {E : Type 0} → InputEnd E → ℕ → ℕ → Type 0
CountsSource ReadFault before after = (before ≤ after) × Rose before after
CountsSource end before after = after ≡ before

-- unless the answerer stopped
abbrev pub UnlessStopped : {E : Type 0} → InputEnd E → Type 0 → Type 0
UnlessStopped (Stopped stop) P = Unit {0}
UnlessStopped end P = P
