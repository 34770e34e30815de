-- What a run says, and what it shows where it says nothing.
use Rattle.std.proofs.Common.{◌≡◌, ℕ, Bool, List, Option, Result, Ok, Err, take, drop, refl, sym, subst, ◌∙◌, take-append-drop, inl}
use Rattle.std.specs.Prelude.{IfErr}
use Rattle.eeprom.specs.Output.{Follows}
use Rattle.line_run.specs.CutOff.{IsCutShort}
use Rattle.person.proofs.Texts.{shows-none}
use Rattle.audit_run.specs.declared.status.AuditStatus.{AuditStatus}
use Rattle.audit_run.specs.declared.status.AuditStatus.TheVariants.{Yes, No, ReadFault, WriteFault, NoMemory, TooLong}
use Rattle.audit_run.specs.declared.verdict.Verdict.{Verdict}
use Rattle.audit_run.specs.Runs.{Says, Watches}

-- the first octets of a text are a start of it, also where the text is spelled elsewhere
pub cut-short : (text piece : List ℕ) (before after : Option (List ℕ)) → piece ≡ text → (count : ℕ) × Follows count piece before after → IsCutShort text before after
cut-short text piece before after is (count, follows) = record { said = take count piece; start = (drop count piece, sym is ∙ sym (take-append-drop count piece)); given = follows }

-- what is said of a verdict is said of it by whatever it has
pub says-judged : (status : AuditStatus) (verdict : Verdict) (Judged : Verdict → Type 0) (before after : Option (List ℕ)) → Judged verdict → Says status (λ (said : Verdict). said ≡ verdict) before after → Says status Judged before after
says-judged Yes verdict Judged before after judged said = (said.0, subst Judged (sym said.1) judged, said.2, said.3)
says-judged No verdict Judged before after judged said = (said.0, subst Judged (sym said.1) judged, said.2, said.3)
says-judged WriteFault verdict Judged before after judged said = (said.0, subst Judged (sym said.1) judged, said.2)
says-judged ReadFault verdict Judged before after judged said = tt
says-judged NoMemory verdict Judged before after judged said = tt
says-judged TooLong verdict Judged before after judged said = tt

module _ {P : Type 0} (lost : P → Bool) (shown : P → Option (List ℕ)) where
  none-watched : (status : AuditStatus) (person : P) → Watches lost shown status person person
  none-watched ReadFault person = refl
  none-watched TooLong person = refl
  none-watched Yes person = (0, shows-none lost shown person)
  none-watched No person = (0, shows-none lost shown person)
  none-watched WriteFault person = (0, shows-none lost shown person)
  none-watched NoMemory person = inl refl

  -- a person who is shown nothing
  pub watches-none : {A : Type 0} (result : Result A AuditStatus) (person : P) → IfErr result (λ status. Watches lost shown status person person)
  watches-none (Ok x) person = tt
  watches-none (Err status) person = none-watched status person
