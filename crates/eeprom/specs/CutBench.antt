-- A bench that is cut off after so many writes: what it passes on to, and when.
use Rattle.std.specs.Prelude.{◌≡◌, ℕ, ◌+◌, ◌-◌, ◌≤◌, ◌==◌, Bool, true, false, if◌then◌else◌, List, length, slice_range, option_map, None, Result, IsTrue, IsErr, IfSome, OnOk}
use Rattle.eeprom.specs.Chip.{Chip}
use Rattle.eeprom.specs.Image.{overwrite}
use Rattle.eeprom.specs.Octets.{ReadsOctets, WritesOctets}
use Rattle.eeprom.specs.declared.cut_bench.CutBench.{CutBench}

-- the EEPROM that it passes its calls on to
abbrev pub inner_of : {B : Type 0} → CutBench B → B
inner_of bench = bench.inner

-- how many writes it still passes on, what the next one leaves in its range, and whether that came
pub record Cut : Type 0 where
  pub left : ℕ
  pub fill : ℕ
  pub cut : Bool

abbrev pub cut_of : {B : Type 0} → CutBench B → Cut
cut_of bench = record { left = bench.left; fill = bench.fill; cut = bench.cut }

abbrev pub with_writes_left : ℕ → ℕ → Cut
with_writes_left left fill = record { left = left; fill = fill; cut = false }

-- a write comes when none is left
abbrev pub is_cut_by_write : Cut → Bool
is_cut_by_write cut = cut.left == 0

abbrev pub after_write : Cut → Cut
after_write cut = record { left = if cut.cut then cut.left else cut.left - 1; fill = cut.fill; cut = if is_cut_by_write cut then true else cut.cut }

-- its own refusals are faults beside those of the inner EEPROM
abbrev pub faults_of : {B : Type 0} → (B → ℕ) → CutBench B → ℕ
faults_of faults bench = faults bench.inner + bench.refusals

-- a bench that tells no contents: its writes may be several of the inner EEPROM
abbrev pub untold : Chip → Chip
untold chip = record { still = chip.still; image = None; written = None; clock = 0; past = None }

-- A read is passed on, unless the bench was cut off before.
pub record PassesRead {B T E : Type 0} (chip : B → Chip) (faults : B → ℕ) (at : ℕ) (buffer got : List ℕ) (old new : CutBench B) (result : Result T E) : Type 0 where
  pub refuses : IsTrue (cut_of old).cut → IsErr result × (inner_of new ≡ inner_of old)
  pub passes : OnOk result (IfSome (chip (inner_of old)).image (λ image. got ≡ slice_range image at (at + length buffer)))
  pub inner : chip (inner_of new) ≡ chip (inner_of old)
  pub cut : cut_of new ≡ cut_of old
  pub reads : ReadsOctets (λ bench. untold (chip (inner_of bench))) (λ _. None) (faults_of faults) at buffer got old new result

-- A write is passed on, as long as some are left. The next one cuts the bench off, and it and all later ones fail.
pub record PassesWrite {B T E : Type 0} (chip : B → Chip) (faults : B → ℕ) (at : ℕ) (octets : List ℕ) (old new : CutBench B) (result : Result T E) : Type 0 where
  pub refuses : IsTrue (cut_of old).cut → IsErr result × (inner_of new ≡ inner_of old)
  pub cuts : IsTrue (is_cut_by_write (cut_of old)) → IsErr result
  pub passes : OnOk result ((chip (inner_of new)).image ≡ option_map (λ image. overwrite image at octets) (chip (inner_of old)).image)
  pub cut : cut_of new ≡ after_write (cut_of old)
  pub writes : WritesOctets (λ bench. untold (chip (inner_of bench))) (λ _. None) (faults_of faults) at octets old new result

-- A range was written over, whatever was answered.
pub record FillsOver {B : Type 0} (chip : B → Chip) (faults : B → ℕ) (old new : B) : Type 0 where
  pub still : (chip new).still ≡ (chip old).still
  pub never_falls : faults old ≤ faults new
