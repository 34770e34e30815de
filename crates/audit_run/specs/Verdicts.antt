-- The verdict on a transcript: whether what was said is what the table machine says, and whether the image afterwards is what it has committed.
use Rattle.std.specs.Prelude.{◌≡◌, ◌⊎◌, ℕ, List, [], ◌∷◌, ◌++◌, length, Option, Some, None, if◌then◌else◌, codes}
use Rattle.std.specs.Fmt.{decimal}
use Rattle.std.specs.Str.{bytes_eq}
use Rattle.scql_model.specs.Database.{Database}
use Rattle.scql_model.specs.Lines.{command_lines, line_step, line_text}
use Rattle.scql_model.specs.Machine.{Machine, start}
use Rattle.scql_model.specs.Opens.{Opens}
use Rattle.audit_run.specs.declared.verdict.Verdict.{Verdict}
use Rattle.audit_run.specs.declared.verdict.Verdict.TheVariants.{NotACard, Malformed, Differs, ImageDiffers, Yes}
use Rattle.audit_run.specs.Transcript.{Exchange, exchanges, malformed}

-- a machine says all that is told, and where it is then; or the first line to which it says something else
pub data Agreement : Type 0 where
  differs_at : (number : ℕ) → Agreement
  agrees : (last : Machine) → Agreement

abbrev pub agreement : Machine → List Exchange → Agreement
agreement m [] = agrees m
agreement m (x ∷ xs) = if bytes_eq (line_text command_lines m x.asked) x.told then agreement (line_step command_lines m x.asked) xs else differs_at x.number

-- all that was said is the machine's: the verdict is yes where the image afterwards opens to what the machine has committed
abbrev pub IsOfImage : Machine → ℕ → List ℕ → Verdict → Type 0
IsOfImage m count last verdict = (Opens last m.committed × (verdict ≡ Yes count)) ⊎ ((Opens last m.committed → ⊥) × (verdict ≡ ImageDiffers))

abbrev pub IsOfAgreement : Agreement → ℕ → List ℕ → Verdict → Type 0
IsOfAgreement (differs_at number) count last verdict = verdict ≡ Differs number
IsOfAgreement (agrees m) count last verdict = IsOfImage m count last verdict

abbrev pub IsOfFormed : Option ℕ → Machine → List ℕ → List ℕ → Verdict → Type 0
IsOfFormed (Some number) m transcript last verdict = verdict ≡ Malformed number
IsOfFormed None m transcript last verdict = IsOfAgreement (agreement m (exchanges transcript)) (length (exchanges transcript)) last verdict

-- The verdict on an image, a transcript that begins with it, and the image afterwards: the first image is no card's; or the transcript is held against the machine that starts with the database to which it opens.
abbrev pub IsVerdict : List ℕ → List ℕ → List ℕ → Verdict → Type 0
IsVerdict first transcript last verdict =
    (((db : Database) → Opens first db → ⊥) × (verdict ≡ NotACard))
    ⊎ ((db : Database) × Opens first db × IsOfFormed (malformed transcript) (start db) transcript last verdict)

-- what is said of it
abbrev pub verdict_text : Verdict → List ℕ
verdict_text NotACard = codes "not a card\n"
verdict_text (Malformed line) = codes "malformed at " ++ (decimal line ++ codes "\n")
verdict_text (Differs line) = codes "differs at " ++ (decimal line ++ codes "\n")
verdict_text ImageDiffers = codes "image differs\n"
verdict_text (Yes lines) = codes "yes " ++ (decimal lines ++ codes "\n")
