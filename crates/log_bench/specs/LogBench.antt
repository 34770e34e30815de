-- What an EEPROM in memory tells that keeps a log of its writes.
use Rattle.std.specs.Prelude.{◌≡◌, ℕ, ◌+◌, ◌<◌, ◌≤◌, ◌^◌, suc, List, [], ◌∷◌, ◌++◌, length, slice_range, Option, Some, None, Result, IfSome, IsOk, OnOk, OnErr}
use Rattle.std.proofs.Common.{ap}
use Rattle.eeprom.specs.Chip.{Chip, giving}
use Rattle.eeprom.specs.Image.{overwrite}
use Rattle.eeprom.specs.MemBench.{small_length}
use Rattle.eeprom.specs.Octets.{ReadsOctets, WritesOctets}
use Rattle.eeprom.specs.Told.{told_count}
use Rattle.log_bench.specs.Log.{writes_in, room_for_writes, room_for_octets}
use Rattle.log_bench.specs.Writes.{Write, undone, stretches, length-stretches}
use Rattle.log_bench.specs.declared.log_bench.LogBench.{LogBench}

-- the image, and the writes since the log was begun
abbrev pub image_of : LogBench → List ℕ
image_of b = b.image.items

abbrev pub log_of : LogBench → List Write
log_of b = writes_in b.log

-- the image when it was begun
abbrev pub first_of : LogBench → List ℕ
first_of b = undone (log_of b) (image_of b)

-- What it tells of this: a log is begun while an answer goes out, and its writes come when that has gone out.
abbrev pub log_chip : List ℕ → List ℕ → List Write → ℕ → Chip
log_chip image first log written = record {
  still = record { size = length image; mark = 1; given = None; sink_faults = 0 };
  image = Some image;
  written = told_count written;
  clock = suc (length log);
  past = Some (giving first 0 1 ∷ stretches 1 log first);
}

abbrev pub chip_of : LogBench → Chip
chip_of b = log_chip (image_of b) (first_of b) (log_of b) b.octets_written

abbrev pub octets_read_of : LogBench → Option ℕ
octets_read_of b = told_count b.octets_read

-- how often a write found no memory for the log
abbrev pub faults_of : LogBench → ℕ
faults_of b = b.faults

-- the laws of an EEPROM
pub small_of : (b : LogBench) → (chip_of b).still.size < 2 ^ 64
small_of b = small_length _ b.image.len b.image.cap b.image.ok b.image.small

pub clocked_of : (b : LogBench) → IfSome (chip_of b).past (λ past. length past ≡ (chip_of b).clock)
clocked_of b = ap suc (length-stretches 1 (log_of b) (first_of b))

-- the image has these octets at this place, and the log has the write as its last
pub record LogsWrite (at : ℕ) (octets : List ℕ) (old new : LogBench) : Type 0 where
  pub image : image_of new ≡ overwrite (image_of old) at octets
  pub log : log_of new ≡ log_of old ++ record { at = at; octets = octets; replaced = slice_range (image_of old) at (at + length octets) } ∷ []
  pub first : first_of new ≡ first_of old

-- A read never fails.
pub record ReadsInMemory {T E : Type 0} (at : ℕ) (buffer got : List ℕ) (old new : LogBench) (result : Result T E) : Type 0 where
  pub succeeds : IsOk result
  pub reads : ReadsOctets chip_of octets_read_of faults_of at buffer got old new result

-- A write is logged.
pub record WritesLogged {T E : Type 0} (at : ℕ) (octets : List ℕ) (old new : LogBench) (result : Result T E) : Type 0 where
  pub logged : OnOk result (LogsWrite at octets old new)
  -- It succeeds where the log has room for it,
  pub fits : 1 ≤ room_for_writes old.log → length octets ≤ room_for_octets old.log → IsOk result
  -- and where there is no memory for it, nothing is written.
  pub wanting : OnErr result ((image_of new ≡ image_of old) × (log_of new ≡ log_of old))
  pub writes : WritesOctets chip_of octets_read_of faults_of at octets old new result
