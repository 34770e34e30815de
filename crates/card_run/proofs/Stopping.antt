-- How a device fails in a line.
use Rattle.std.proofs.Common.{◌≡◌, ℕ, List, [], ◌∷◌, take, drop, Option, Some, Result, Ok, Err, sym, subst, ◌∙◌, take-append-drop}
use Rattle.std.specs.Prelude.{OnErr, IfErr, IsErrAnd}
use Rattle.eeprom.specs.Chip.{Chip}
use Rattle.eeprom.specs.Output.{Follows, Prints}
use Rattle.scql_model.specs.Lines.{Effect, Language}
use Rattle.scql_model.specs.Heard.{committed_in}
use Rattle.scql_model.specs.Opens.{Opens, OpensToOneOf}
use Rattle.line_run.specs.declared.line_stop.LineStop.{LineStop}
use Rattle.line_run.specs.declared.line_stop.LineStop.TheVariants.{Eeprom, Outlet, Both}
use Rattle.line_run.specs.CutOff.{IsOneOf, FailsIn, IsCutShort}

-- where an outlet failed, the first octets that it gave of a text are a start of it
pub cut_short : {E : Type 0} (result : Result (Unit {0}) E) (text : List ℕ) (before now : Option (List ℕ))
    → OnErr result ((count : ℕ) × Follows count text before now) → OnErr result (IsCutShort text before now)
cut_short (Ok x) text before now given = tt
cut_short (Err fault) text before now given = record { said = take given.0 text; start = (drop given.0 text, sym (take-append-drop given.0 text)); given = given.1 }

-- what holds where the outlet failed, holds of the stop that its fault becomes
pub at_outlet : (P : LineStop → Type 0) (result : Result (Unit {0}) LineStop) → IsErrAnd result (λ (stop : LineStop). stop ≡ Outlet) → P Outlet → IfErr result P
at_outlet P (Ok x) is holds = tt
at_outlet P (Err stop) is holds = subst P (sym is) holds

-- an answer was to be given, and the outlet failed
pub fails_giving : {S : Type 0} (L : Language S) (state : S) (does : Effect S) (before : Option (List ℕ)) (mid now : Chip) → IsCutShort (does.text) before now.still.given
    → now.image ≡ mid.image → ((image : List ℕ) → mid.image ≡ Some image → Opens image (committed_in L does.next)) → FailsIn Outlet L [] state does before now
fails_giving L state does before mid now cut same opens = record {
  said = cut.said;
  says = cut.start;
  given = cut.given;
  image = λ image told. opens image (sym same ∙ told);
}

-- what a line may leave of the EEPROM
abbrev pub OpensWithin : {S : Type 0} (L : Language S) (state : S) → Effect S → Chip → Type 0
OpensWithin L state does chip = (image : List ℕ) → chip.image ≡ Some image → OpensToOneOf (committed_in L state ∷ does.commits) image

-- the card went mute, and said so
pub fails_mute : {S : Type 0} (L : Language S) (state : S) (does : Effect S) (text : List ℕ) (before : Option (List ℕ)) (mid now : Chip) → IsOneOf does.faulty text → Prints text before now.still.given
    → now.image ≡ mid.image → OpensWithin L state does mid → FailsIn Eeprom L [] state does before now
fails_mute L state does text before mid now is given same opens = record {
  said = text;
  says = is;
  given = given;
  image = λ image told. opens image (sym same ∙ told);
}

-- or the outlet failed as it did
pub fails_both : {S : Type 0} (L : Language S) (state : S) (does : Effect S) (text : List ℕ) (before : Option (List ℕ)) (mid now : Chip) → IsOneOf does.faulty text → IsCutShort text before now.still.given
    → now.image ≡ mid.image → OpensWithin L state does mid → FailsIn Both L [] state does before now
fails_both L state does text before mid now is cut same opens = record {
  said = cut.said;
  says = (text, is, cut.start);
  given = cut.given;
  image = λ image told. opens image (sym same ∙ told);
}
