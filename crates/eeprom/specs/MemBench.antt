-- What a bench in memory tells.
use Rattle.std.specs.Prelude.{◌≡◌, ◌⊎◌, ◌↔◌, ℕ, ◌/◌, ◌<◌, ◌≤◌, ◌^◌, IsTrue, List, Option, Some, Result, IfSome, IsErr, OnOk, OnErr, length, take, replicate}
use Rattle.std.proofs.Common.{arith}
use Rattle.eeprom.specs.Chip.{Chip, Gives}
use Rattle.eeprom.specs.Fault.{Counts, Rose}
use Rattle.eeprom.specs.Octets.{ReadsOctets, WritesOctets}
use Rattle.eeprom.specs.Output.{Follows}
use Rattle.eeprom.specs.Planned.{Plan, calls_of, is_next_failing, plan_from, after_read, after_write, after_give}
use Rattle.eeprom.specs.Told.{Told, untouched, with_write, with_output, chip_from, told_count}
use Rattle.eeprom.specs.Recorded.{length-past_of}
use Rattle.eeprom.specs.Recording.{told}
use Rattle.eeprom.specs.declared.mem_bench.MemBench.{MemBench}
use Rattle.eeprom.specs.declared.plan.FaultPlan.{FaultPlan}

-- its image, its output, and each stretch of time
abbrev pub told_of : MemBench → Told
told_of b = told b.recording

abbrev pub chip_of : MemBench → Chip
chip_of b = chip_from (told_of b) b.octets_written b.sink_faults

-- which calls are to fail, and how
abbrev pub plan_of : MemBench → Plan
plan_of b = record { reads = calls_of b.reads; writes = calls_of b.writes; gives = calls_of b.gives; fill = b.fill }

-- how often the EEPROM failed, and how often the outlet
abbrev pub faults_of : MemBench → ℕ
faults_of b = b.faults

abbrev pub sink_faults_of : MemBench → ℕ
sink_faults_of b = b.sink_faults

abbrev pub octets_read_of : MemBench → Option ℕ
octets_read_of b = told_count b.octets_read

-- how often a write or a give found no room for its record, and that one did
abbrev pub lacks_of : MemBench → ℕ
lacks_of b = b.lacks

abbrev pub LacksRoom : MemBench → MemBench → Type 0
LacksRoom old new = Rose (lacks_of old) (lacks_of new)

-- A failing write: a planned one leaves the plan's octet in its whole range; one without room for its record leaves all as it was.
abbrev pub FailsWrite : ℕ → ℕ → MemBench → MemBench → Type 0
FailsWrite at count old new =
    (IsTrue (is_next_failing (plan_of old).writes) × (told_of new ≡ with_write at (replicate count (plan_of old).fill) (told_of old))) ⊎ (LacksRoom old new × (told_of new ≡ told_of old))

-- A failing give: a planned one gives the first half of its piece, rounded down; one without room for its record gives nothing.
abbrev pub FailsGive : List ℕ → MemBench → MemBench → Type 0
FailsGive octets old new =
    (IsTrue (is_next_failing (plan_of old).gives) × (told_of new ≡ with_output (take (length octets / 2) octets) (told_of old))) ⊎ (LacksRoom old new × (told_of new ≡ told_of old))

-- what giving leaves of the EEPROM
abbrev pub Leaves : MemBench → MemBench → Type 0
Leaves old new = Gives (chip_of old) (chip_of new) × (faults_of new ≡ faults_of old) × (octets_read_of new ≡ octets_read_of old)

-- A new one over an image, to which nothing happened yet.
pub record IsNew (image : List ℕ) (planned : FaultPlan) (bench : MemBench) : Type 0 where
  pub chip : chip_of bench ≡ chip_from (untouched image) 0 0
  pub read : octets_read_of bench ≡ Some 0
  pub faults : faults_of bench ≡ 0
  pub plan : plan_of bench ≡ plan_from planned
  pub room : lacks_of bench ≡ 0

-- A read fails exactly where that was planned.
pub record ReadsAsPlanned {T E : Type 0} (at : ℕ) (buffer got : List ℕ) (old new : MemBench) (result : Result T E) : Type 0 where
  pub fails : IsErr result ↔ IsTrue (is_next_failing (plan_of old).reads)
  pub reads : ReadsOctets chip_of octets_read_of faults_of at buffer got old new result
  -- One read more was made,
  pub plan : plan_of new ≡ after_read (plan_of old)
  -- and no record was wanting.
  pub room : lacks_of new ≡ lacks_of old

-- A write fails where that was planned, or where there is no room for its record.
pub record WritesAsPlanned {T E : Type 0} (at : ℕ) (octets : List ℕ) (old new : MemBench) (result : Result T E) : Type 0 where
  pub fails : IsTrue (is_next_failing (plan_of old).writes) → IsErr result
  pub beside_the_plan : OnErr result (IsTrue (is_next_failing (plan_of old).writes) ⊎ LacksRoom old new)
  pub done : OnOk result (told_of new ≡ with_write at octets (told_of old))
  pub failed : OnErr result (FailsWrite at (length octets) old new)
  pub writes : WritesOctets chip_of octets_read_of faults_of at octets old new result
  -- One write more was made.
  pub plan : plan_of new ≡ after_write (plan_of old)
  -- A write that was done had room for its record, and no count of those that hadn't falls.
  pub room : OnOk result (lacks_of new ≡ lacks_of old)
  pub lacks : lacks_of old ≤ lacks_of new

-- A give fails where that was planned, or where there is no room for its record.
pub record GivesAsPlanned {T E : Type 0} (octets : List ℕ) (old new : MemBench) (result : Result T E) : Type 0 where
  pub fails : IsTrue (is_next_failing (plan_of old).gives) → IsErr result
  pub beside_the_plan : OnErr result (IsTrue (is_next_failing (plan_of old).gives) ⊎ LacksRoom old new)
  pub done : OnOk result (told_of new ≡ with_output octets (told_of old))
  pub failed : OnErr result (FailsGive octets old new)
  -- What an outlet does:
  pub ok : OnOk result (Follows (length octets) octets (chip_of old).still.given (chip_of new).still.given)
  pub err : OnErr result ((count : ℕ) × Follows count octets (chip_of old).still.given (chip_of new).still.given)
  pub rest : Leaves old new
  pub cause : Counts (sink_faults_of old) (sink_faults_of new) result
  -- One give more was made.
  pub plan : plan_of new ≡ after_give (plan_of old)
  -- A give that was done had room for its record, and no count of those that hadn't falls.
  pub room : OnOk result (lacks_of new ≡ lacks_of old)
  pub lacks : lacks_of old ≤ lacks_of new

-- the laws of an EEPROM
pub small_length : (n len cap : ℕ) → (len ≡ n) × (len ≤ cap) → cap < 2 ^ 63 → n < 2 ^ 64
small_length n len cap fits small = omega arith

pub small_of : (b : MemBench) → (chip_of b).still.size < 2 ^ 64
small_of b = small_length _ b.recording.image.len b.recording.image.cap b.recording.image.ok b.recording.image.small

pub clocked_of : (b : MemBench) → IfSome (chip_of b).past (λ past. length past ≡ (chip_of b).clock)
clocked_of b = length-past_of b.recording.first.items b.recording.events.items
