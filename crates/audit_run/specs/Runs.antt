-- A run that audits: three sources are read, and the verdict on what they held is said.
use Rattle.std.specs.Prelude.{◌≡◌, ◌⊎◌, ℕ, Bool, true, false, List, Option}
use Rattle.eeprom.specs.Fault.{Rose}
use Rattle.eeprom.specs.Output.{Prints}
use Rattle.line_run.specs.CutOff.{IsCutShort}
use Rattle.person.specs.Showing.{Shows}
use Rattle.audit_run.specs.declared.status.AuditStatus.{AuditStatus}
use Rattle.audit_run.specs.declared.status.AuditStatus.TheVariants.{Yes, No, ReadFault, WriteFault, NoMemory, TooLong}
use Rattle.audit_run.specs.declared.verdict.Verdict.{Verdict}
use Rattle.audit_run.specs.Ends.{status_of}
use Rattle.audit_run.specs.Progress.{passed_text, watched_text}
use Rattle.audit_run.specs.Reading.{AreRead, AreStopped, Sources}
use Rattle.audit_run.specs.Verdicts.{IsVerdict, verdict_text}

-- The sources were read to their ends, and this is the verdict on what they held. Meanwhile a person was shown how far the transcript was gone through.
pub record Judges {P : Type 0} (lost : P → Bool) (shown : P → Option (List ℕ)) (old new : Sources) (person after : P) (verdict : Verdict) : Type 0 where
  pub first : List ℕ
  pub transcript : List ℕ
  pub last : List ℕ
  pub read : AreRead first transcript last old new
  pub found : IsVerdict first transcript last verdict
  pub watched : Shows lost shown (watched_text transcript verdict) person after

-- a run that ends so came to a verdict
abbrev pub has_verdict : AuditStatus → Bool
has_verdict Yes = true
has_verdict No = true
has_verdict WriteFault = true
has_verdict status = false

-- It said the verdict, on a line, and ends by it; or the start of the line, where the outlet failed.
abbrev pub Says : AuditStatus → (Verdict → Type 0) → Option (List ℕ) → Option (List ℕ) → Type 0
Says Yes Judged before after = (verdict : Verdict) × Judged verdict × (status_of verdict ≡ Yes) × Prints (verdict_text verdict) before after
Says No Judged before after = (verdict : Verdict) × Judged verdict × (status_of verdict ≡ No) × Prints (verdict_text verdict) before after
Says WriteFault Judged before after = (verdict : Verdict) × Judged verdict × IsCutShort (verdict_text verdict) before after
Says status Judged before after = Unit {0}

-- A run that ends so came to none: it stopped at a source, or there was no memory for the verdict on what they held.
abbrev pub Stops : AuditStatus → Sources → Sources → Type 0
Stops ReadFault old new = AreStopped ReadFault old new
Stops TooLong old new = AreStopped TooLong old new
Stops NoMemory old new = AreStopped NoMemory old new ⊎ ((first transcript last : List ℕ) × AreRead first transcript last old new)
Stops status old new = Unit {0}

-- What a person is shown: nothing where a source failed or is too long, and else how far the transcript was gone through; where there was no memory, perhaps nothing.
abbrev pub Watches : {P : Type 0} → (P → Bool) → (P → Option (List ℕ)) → AuditStatus → P → P → Type 0
Watches lost shown ReadFault person after = after ≡ person
Watches lost shown TooLong person after = after ≡ person
Watches lost shown NoMemory person after = (after ≡ person) ⊎ ((count : ℕ) × Shows lost shown (passed_text count) person after)
Watches lost shown status person after = (count : ℕ) × Shows lost shown (passed_text count) person after

-- The outlet failed, and counted that, where the status says so; and else its count stays.
abbrev pub CountsSaying : AuditStatus → ℕ → ℕ → Type 0
CountsSaying WriteFault before after = Rose before after
CountsSaying status before after = after ≡ before
