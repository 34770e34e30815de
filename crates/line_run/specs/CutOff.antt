-- What is said of a line in which a run stops, and to which databases the image may open.
use Rattle.std.specs.Prelude.{◌≡◌, ◌⊎◌, ℕ, List, [], ◌∷◌, ◌++◌, Option, Some}
use Rattle.eeprom.specs.Chip.{Chip}
use Rattle.scql_model.specs.Lines.{Effect, Language}
use Rattle.scql_model.specs.Heard.{committed_in}
use Rattle.scql_model.specs.Opens.{Opens, OpensToOneOf}
use Rattle.line_run.specs.declared.line_stop.LineStop.{LineStop}
use Rattle.line_run.specs.declared.line_stop.LineStop.TheVariants.{Eeprom, Outlet, Both, NoMemory}
use Rattle.eeprom.specs.Output.{Prints}

-- a text begins so
abbrev pub IsStartOf : List ℕ → List ℕ → Type 0
IsStartOf said text = (rest : List ℕ) × (text ≡ said ++ rest)

-- a text is one of these
abbrev pub IsOneOf : List (List ℕ) → List ℕ → Type 0
IsOneOf [] said = ⊥
IsOneOf (text ∷ texts) said = (said ≡ text) ⊎ IsOneOf texts said

-- What is said of a line in which a run stops: a card tells that its EEPROM failed, and an outlet gives the start of an answer. Where there was no memory for the line, nothing is said of it.
abbrev pub Says : {S : Type 0} → LineStop → Effect S → List ℕ → Type 0
Says Eeprom does said = IsOneOf does.faulty said
Says Outlet does said = IsStartOf said does.text
Says Both does said = (whole : List ℕ) × IsOneOf does.faulty whole × IsStartOf said whole
Says NoMemory does said = said ≡ []

-- To what the image opens behind a line in which a run stops: to the database after the line where the outlet alone failed, to the one before it where there was no memory for it, and else to that one or to one that it commits.
abbrev pub OpensBehind : {S : Type 0} → LineStop → Language S → S → Effect S → List ℕ → Type 0
OpensBehind Outlet language state does image = Opens image (committed_in language does.next)
OpensBehind NoMemory language state does image = Opens image (committed_in language state)
OpensBehind stop language state does image = OpensToOneOf (committed_in language state ∷ does.commits) image

-- A run stopped in a line that does this. What was said of it follows this text of the lines before.
pub record FailsIn {S : Type 0} (stop : LineStop) (language : Language S) (text : List ℕ) (state : S) (does : Effect S) (before : Option (List ℕ)) (now : Chip) : Type 0 where
  pub said : List ℕ
  pub says : Says stop does said
  pub given : Prints (text ++ said) before now.still.given
  pub image : (image : List ℕ) → now.image ≡ Some image → OpensBehind stop language state does image

-- An outlet failed, and gave the start of a text.
pub record IsCutShort (text : List ℕ) (before now : Option (List ℕ)) : Type 0 where
  pub said : List ℕ
  pub start : IsStartOf said text
  pub given : Prints said before now
