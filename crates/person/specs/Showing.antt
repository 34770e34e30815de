-- What a person is shown.
use Rattle.std.specs.Prelude.{◌≡◌, ℕ, Bool, true, false, List, [], Option, Some, None}
use Rattle.eeprom.specs.Output.{Prints}
use Rattle.line_run.specs.CutOff.{IsCutShort}

-- a text was shown, or a start of it to one who can be shown no more
abbrev pub IsShown : Bool → List ℕ → Option (List ℕ) → Option (List ℕ) → Type 0
IsShown false text before now = Prints text before now
IsShown true text before now = IsCutShort text before now

-- A person, of whom it is told what was shown and whether no more can be, is shown this text; or nothing, where no more could be already.
pub record Shows {P : Type 0} (lost : P → Bool) (shown : P → Option (List ℕ)) (text : List ℕ) (old new : P) : Type 0 where
  pub follows : IsShown (lost new) text (shown old) (shown new)
  pub over : lost old ≡ true → (shown new ≡ shown old) × (lost new ≡ true)

-- some text is shown so
abbrev pub ShowsSome : {P : Type 0} → (P → Bool) → (P → Option (List ℕ)) → P → P → Type 0
ShowsSome lost shown old new = (text : List ℕ) × Shows lost shown text old new

-- at a screen it isn't told what was shown, and where there is none nothing was
abbrev pub shown_on : {S : Type 0} → Option S → Option (List ℕ)
shown_on None = Some []
shown_on (Some screen) = None

-- and no more can be
abbrev pub lost_on : {S : Type 0} → Option S → Bool → Bool
lost_on None lost = true
lost_on (Some screen) lost = lost
