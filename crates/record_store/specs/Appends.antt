-- What a writer makes of an image, some of its octets pending.
use Rattle.std.specs.Prelude.{◌≡◌, ℕ, ◌+◌, ◌≤◌, List, [], length, take, drop, Option, option_map, Result, OnOk}
use Rattle.eeprom.specs.Chip.{Chip, Keeps}
use Rattle.eeprom.specs.Fault.{Counts}
use Rattle.eeprom.specs.Image.{overwrite}
use Rattle.record_store.specs.declared.writer.Writer.{Writer}

-- where the next octet goes
abbrev pub end_of : Writer → ℕ
end_of writer = writer.at + length writer.pending.items

-- the image as it is once the pending octets are written
abbrev pub promised : Writer → Chip → Option (List ℕ)
promised writer chip = option_map (λ image. overwrite image writer.at writer.pending.items) chip.image

-- these octets are written or pending, behind what was so before
pub record Appends (octets : List ℕ) (old new : Writer) (before after : Chip) : Type 0 where
  pub end : end_of new ≡ end_of old + length octets
  pub image : promised new after ≡ option_map (λ image. overwrite image (end_of old) octets) (promised old before)

-- A writer may write up to a place: it is behind the first four octets, and the EEPROM reaches there.
pub record MayWrite (writer : Writer) (end : ℕ) (chip : Chip) : Type 0 where
  pub behind : 4 ≤ writer.at
  pub room : end ≤ chip.still.size

-- How a call of a writer ends that appends octets, up to a place at most.
pub record AppendsUpTo {S T E : Type 0} (chip : S → Chip) (faults : S → ℕ) (octets : List ℕ) (end : ℕ) (old new : Writer) (was now : S) (result : Result T E) : Type 0 where
  pub appends : OnOk result (Appends octets old new (chip was) (chip now))
  pub behind : OnOk result (4 ≤ new.at)
  -- The first four octets stay at each moment, and so do all from that place on.
  pub front : Keeps (take 4) (chip was) (chip now)
  pub after : (limit : ℕ) → end ≤ limit → Keeps (drop limit) (chip was) (chip now)
  -- A fault was counted.
  pub cause : Counts (faults was) (faults now) result

-- What is pending is written.
pub record Flushes {S T E : Type 0} (chip : S → Chip) (faults : S → ℕ) (old new : Writer) (was now : S) (result : Result T E) : Type 0 where
  pub written : OnOk result ((chip now).image ≡ promised old (chip was))
  pub place : OnOk result (new.at ≡ end_of old)
  pub empty : OnOk result (new.pending.items ≡ [])
  pub behind : OnOk result (4 ≤ new.at)
  -- What comes before the octets stays, and what comes behind them.
  pub front : Keeps (take 4) (chip was) (chip now)
  pub after : (limit : ℕ) → end_of old ≤ limit → Keeps (drop limit) (chip was) (chip now)
  pub cause : Counts (faults was) (faults now) result
