-- How the calls end that look for a record, and that read it.
use Rattle.std.specs.Prelude.{◌≡◌, ℕ, ◌<◌, ◌≤◌, Bool, false, true, if◌then◌else◌, List, Option, Some, None, Result, IfSome, IfOk}
use Rattle.eeprom.specs.Chip.{Chip, Becomes}
use Rattle.eeprom.specs.Fault.{each_error}
use Rattle.eeprom.specs.Frame.{Reads}
use Rattle.eeprom.specs.StoreOf.{Slots, weight_of}
use Rattle.cell_store.specs.Reading.{ReadsRecord}
use Rattle.record_store.specs.CommonRuns.{is_common_or_none}
use Rattle.record_store.specs.Held.{Held, StandsFor, contents, record_at}
use Rattle.record_store.specs.Tags.{has_tag, is_tagged}
use Rattle.record_store.specs.declared.side.Side.{Side}
use Rattle.record_store.specs.declared.tags.Tag.{Tag}

-- The record of a slot is read, where there is one.
pub record Gets {S E : Type 0} (chip : S → Chip) (faults : S → ℕ) (octets : S → Option ℕ) (held : Held) (side : Side) (slot : ℕ) (out : List ℕ) (before after : S) (result : Result Bool E) : Type 0 where
  pub found : IfOk result (λ found. IfSome (chip before).image (λ image. record_at held side slot image ≡ (if found then Some out else None)))
  pub octets_read : IfOk result (λ found. IfSome (chip before).image (λ _. Becomes (ReadsRecord (if found then Some out else None)) (octets before) (octets after)))
  -- Nothing is written.
  pub frame : Reads each_error chip faults before after result

-- How many cells the records of a side have, and no more than the store has.
pub record TellsWeight (held : Held) (side : Side) (result : ℕ) : Type 0 where
  pub weight : (image : List ℕ) → (slots : Slots) → StandsFor held image → contents held side image ≡ Some slots → result ≡ weight_of slots
  pub most : result ≤ held.chains.cells

-- From this slot on all are empty on both sides.
pub record EndsUse (held : Held) (result : ℕ) : Type 0 where
  pub most : result ≤ held.chains.cells
  pub empty : (image : List ℕ) (side : Side) (slot : ℕ) → StandsFor held image → result ≤ slot → record_at held side slot image ≡ None

-- From a slot on, common records or none were passed, up to the slot that is answered.
pub record PassesOver (held : Held) (slot result : ℕ) : Type 0 where
  pub onward : slot ≤ result
  pub most : slot ≤ held.chains.cells → result ≤ held.chains.cells
  pub common : (image : List ℕ) (side : Side) (passed : ℕ) → StandsFor held image → slot ≤ passed → passed < result → is_common_or_none (record_at held side passed image) ≡ true

-- From a slot on, the next one with a record of a tag is answered, or a slot behind all.
pub record FindsTagged (held : Held) (side : Side) (tag : Tag) (slot result : ℕ) : Type 0 where
  pub onward : slot ≤ result
  pub most : slot ≤ held.chains.cells → result ≤ held.chains.cells
  pub others : (image : List ℕ) (passed : ℕ) → StandsFor held image → slot ≤ passed → passed < result → has_tag tag (record_at held side passed image) ≡ false
  pub here : (image : List ℕ) (octets : List ℕ) → StandsFor held image → record_at held side result image ≡ Some octets → is_tagged tag octets ≡ true
