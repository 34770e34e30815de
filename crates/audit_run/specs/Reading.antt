-- Sources that are read to their ends, one after another.
use Rattle.std.specs.Prelude.{◌≡◌, ◌⊎◌, ℕ, ◌<◌, ◌≤◌, List, [], length, Option}
use Rattle.eeprom.specs.Chip.{Becomes}
use Rattle.eeprom.specs.Fault.{Rose}
use Rattle.line_input.specs.Reading.{longest_input}
use Rattle.audit_run.specs.declared.status.AuditStatus.{AuditStatus}
use Rattle.audit_run.specs.declared.status.AuditStatus.TheVariants.{ReadFault, NoMemory, TooLong}

-- how many octets an image may have
abbrev pub longest_image : ℕ
longest_image = 262144

-- What a source has left, where told, and how often it failed.
pub record Supply : Type 0 where
  pub left : Option (List ℕ)
  pub faults : ℕ

abbrev pub supply_of : {S : Type 0} → (S → Option (List ℕ)) → (S → ℕ) → S → Supply
supply_of left faults source = record { left = left source; faults = faults source }

-- A source was read to its end. It had these octets, at most so many.
pub record IsRead (most : ℕ) (octets : List ℕ) (old new : Supply) : Type 0 where
  pub held : Becomes (λ input left. (input ≡ octets) × (left ≡ [])) old.left new.left
  pub short : length octets ≤ most
  pub faults : new.faults ≡ old.faults

abbrev pub IsWhole : ℕ → Supply → Supply → Type 0
IsWhole most old new = (octets : List ℕ) × IsRead most octets old new

-- Why a source wasn't read to its end, which may have so many octets: it failed, and counted that; it has more; or there was no memory.
abbrev pub IsStopped : AuditStatus → ℕ → Supply → Supply → Type 0
IsStopped ReadFault most old new = Rose old.faults new.faults
IsStopped TooLong most old new = Becomes (λ input left. most < length input) old.left new.left × (new.faults ≡ old.faults)
IsStopped NoMemory most old new = new.faults ≡ old.faults
IsStopped status most old new = ⊥

-- the sources of an audit
pub record Sources : Type 0 where
  pub first : Supply
  pub transcript : Supply
  pub last : Supply

abbrev pub sources_of : {S : Type 0} → (S → Option (List ℕ)) → (S → ℕ) → S → S → S → Sources
sources_of left faults first transcript last = record { first = supply_of left faults first; transcript = supply_of left faults transcript; last = supply_of left faults last }

-- all three were read to their ends, and had these octets
pub record AreRead (first transcript last : List ℕ) (old new : Sources) : Type 0 where
  pub first_image : IsRead longest_image first old.first new.first
  pub lines : IsRead longest_input transcript old.transcript new.transcript
  pub last_image : IsRead longest_image last old.last new.last

-- One of them wasn't, for this cause: those before it were, and those behind it stay.
abbrev pub AreStopped : AuditStatus → Sources → Sources → Type 0
AreStopped status old new =
    IsStopped status longest_image old.first new.first × (new.transcript ≡ old.transcript) × (new.last ≡ old.last)
    ⊎ IsWhole longest_image old.first new.first × IsStopped status longest_input old.transcript new.transcript × (new.last ≡ old.last)
    ⊎ IsWhole longest_image old.first new.first × IsWhole longest_input old.transcript new.transcript × IsStopped status longest_image old.last new.last
