-- The verdict where a machine says all that is told.
use Rattle.std.proofs.Common.{◌≡◌, ℕ, List, Option, None, length, inr, sym, subst}
use Rattle.scql_model.specs.Database.{Database}
use Rattle.scql_model.specs.Machine.{Machine, start}
use Rattle.scql_model.specs.Opens.{Opens}
use Rattle.audit_run.specs.declared.verdict.Verdict.{Verdict}
use Rattle.audit_run.specs.Found.{IsFound}
use Rattle.audit_run.specs.Transcript.{exchanges, malformed}
use Rattle.audit_run.specs.Verdicts.{Agreement, differs_at, agrees, agreement, IsOfAgreement, IsOfFormed, IsOfImage, IsVerdict}

-- it is that of the image afterwards
agreed-agreement : (stands : Machine → Type 0) (agreement : Agreement) (count : ℕ) (last : List ℕ) (verdict : Verdict) → IsFound stands agreement None → ((m : Machine) → stands m → IsOfImage m count last verdict)
    → IsOfAgreement agreement count last verdict
agreed-agreement stands (differs_at number) count last verdict found image = absurd cc
agreed-agreement stands (agrees m) count last verdict found image = image m found.1

pub agreed-verdict : (stands : Machine → Type 0) (first transcript last : List ℕ) (db : Database) (verdict : Verdict) → Opens first db → malformed transcript ≡ None → IsFound stands (agreement (start db) (exchanges transcript)) None
    → ((m : Machine) → stands m → IsOfImage m (length (exchanges transcript)) last verdict) → IsVerdict first transcript last verdict
agreed-verdict stands first transcript last db verdict opens formed found image =
    inr (
      db,
      opens,
      subst (λ (number : Option ℕ). IsOfFormed number (start db) transcript last verdict) (sym formed)
          (agreed-agreement stands (agreement (start db) (exchanges transcript)) (length (exchanges transcript)) last verdict found image),
    )
