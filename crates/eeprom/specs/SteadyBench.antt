-- What a bench in memory tells that never fails: its image always, its output and its moments as far as there was room for them.
use Rattle.std.specs.Prelude.{◌≡◌, ◌↔◌, IsSome, ℕ, ◌-◌, ◌<◌, ◌≤◌, ◌^◌, Bool, true, false, List, [], ◌∷◌, ◌++◌, Option, Some, None, Result, IfSome, IsOk, OnOk, OnErr, length, if◌then◌else◌, refl}
use Rattle.eeprom.specs.Chip.{Chip, Stretch, Becomes, Gives, writing, giving}
use Rattle.eeprom.specs.Fault.{Counts}
use Rattle.eeprom.specs.MemBench.{small_length}
use Rattle.eeprom.specs.Octets.{ReadsOctets, WritesOctets}
use Rattle.eeprom.specs.Output.{Follows}
use Rattle.eeprom.specs.Told.{told_count}
use Rattle.eeprom.specs.Steps.{told_past, length-stretches_of}
use Rattle.eeprom.specs.declared.steady_bench.SteadyBench.{SteadyBench}
use Rattle.eeprom.specs.declared.steady_bench.Step.{Step}

-- how many octets may still be written until the moments are told no more
abbrev pub room_for_writes : SteadyBench → ℕ
room_for_writes b = b.replaced.left

-- how many octets may still be given until neither the output nor the moments are told
abbrev pub room_for_output : SteadyBench → ℕ
room_for_output b = b.output.left

-- what was told is told exactly as long as a piece of so many octets finds room
abbrev pub ToldWithin : {A : Type 0} → ℕ → ℕ → Option A → Option A → Type 0
ToldWithin count room old new = IsSome new ↔ (IsSome old × (count ≤ room))

-- the output, unless a piece of it found no room
abbrev pub given_of : SteadyBench → Option (List ℕ)
given_of b = if b.output.overrun then None else Some b.output.octets.items

-- the moments, unless a write or a piece of output found no room
abbrev pub past_of : SteadyBench → Option (List Stretch)
past_of b = told_past b.output.overrun b.replaced.overrun b.steps.items b.replaced.octets.items b.image.items

abbrev pub chip_of : SteadyBench → Chip
chip_of b = record {
  still = record { size = length b.image.items; mark = length b.output.octets.items; given = given_of b; sink_faults = 0 };
  image = Some b.image.items;
  written = told_count b.octets_written;
  clock = length b.steps.items;
  past = past_of b;
}

abbrev pub octets_read_of : SteadyBench → Option ℕ
octets_read_of b = told_count b.octets_read

-- time goes on by one stretch of the image as it is, where told
abbrev pub TellsStretch : (List ℕ → Stretch) → Chip → Chip → Type 0
TellsStretch stretch old new = Becomes (λ before after. (image : List ℕ) × (old.image ≡ Some image) × (after ≡ before ++ stretch image ∷ [])) old.past new.past

-- what giving leaves of the EEPROM
abbrev pub Leaves : SteadyBench → SteadyBench → Type 0
Leaves old new = Gives (chip_of old) (chip_of new) × (octets_read_of new ≡ octets_read_of old)

-- A read never fails, and the room that is left stays.
pub record ReadsSteadily {T E : Type 0} (at : ℕ) (buffer got : List ℕ) (old new : SteadyBench) (result : Result T E) : Type 0 where
  pub succeeds : IsOk result
  pub reads : ReadsOctets chip_of octets_read_of (λ _. 0) at buffer got old new result
  pub room : (room_for_writes new ≡ room_for_writes old) × (room_for_output new ≡ room_for_output old)

-- A write never fails.
pub record WritesSteadily {T E : Type 0} (at : ℕ) (octets : List ℕ) (old new : SteadyBench) (result : Result T E) : Type 0 where
  pub succeeds : IsOk result
  pub writes : WritesOctets chip_of octets_read_of (λ _. 0) at octets old new result
  -- Each write of some octets is a moment, where told: as long as there is room for it.
  pub moment : 0 < length octets → TellsStretch (λ image. writing (record { image = image; at = at; count = length octets; mark = (chip_of old).still.mark })) (chip_of old) (chip_of new)
  pub told : ToldWithin (length octets) (room_for_writes old) (chip_of old).past (chip_of new).past
  -- It takes up room of the writes.
  pub room : (room_for_writes new ≡ room_for_writes old - length octets) × (room_for_output new ≡ room_for_output old)

-- A give never fails.
pub record GivesSteadily {T E : Type 0} (octets : List ℕ) (old new : SteadyBench) (result : Result T E) : Type 0 where
  pub succeeds : IsOk result
  -- What an outlet does:
  pub ok : OnOk result (Follows (length octets) octets (given_of old) (given_of new))
  pub err : OnErr result ((count : ℕ) × Follows count octets (given_of old) (given_of new))
  pub rest : Leaves old new
  pub cause : Counts 0 0 result
  -- Each give of some octets is a moment, where told: output and moments are, as long as there is room for them.
  pub moment : 0 < length octets → TellsStretch (λ image. giving image (chip_of old).still.mark (chip_of new).still.mark) (chip_of old) (chip_of new)
  pub output_told : ToldWithin (length octets) (room_for_output old) (given_of old) (given_of new)
  pub past_told : ToldWithin (length octets) (room_for_output old) (chip_of old).past (chip_of new).past
  -- It takes up room of the output.
  pub room : (room_for_output new ≡ room_for_output old - length octets) × (room_for_writes new ≡ room_for_writes old)

-- the laws of an EEPROM and of a bench
pub small_of : (b : SteadyBench) → (chip_of b).still.size < 2 ^ 64
small_of b = small_length _ b.image.len b.image.cap b.image.ok b.image.small

clocked_past : (overrun full : Bool) (steps : List Step) (replaced image : List ℕ) →
    IfSome (told_past overrun full steps replaced image) (λ past. length past ≡ length steps)
clocked_past true full steps replaced image = tt
clocked_past false true steps replaced image = tt
clocked_past false false steps replaced image = length-stretches_of steps replaced image

pub clocked_of : (b : SteadyBench) → IfSome (chip_of b).past (λ past. length past ≡ (chip_of b).clock)
clocked_of b = clocked_past b.output.overrun b.replaced.overrun b.steps.items b.replaced.octets.items b.image.items

marked_given : (overrun : Bool) (output : List ℕ) → IfSome (if overrun then None else Some output) (λ given. length output ≡ length given)
marked_given true output = tt
marked_given false output = refl

pub mark_of : (b : SteadyBench) → IfSome (given_of b) (λ given. (chip_of b).still.mark ≡ length given)
mark_of b = marked_given b.output.overrun b.output.octets.items
