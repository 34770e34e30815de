-- What the octets of a slot were read as while a card is opened.
use Rattle.std.specs.Prelude.{ℕ, Option, Some, None}
use Rattle.card.specs.declared.kept_record.KeptRecord.{KeptRecord}
use Rattle.card.specs.declared.slot_record.SlotRecord.{SlotRecord}
use Rattle.card.specs.declared.slot_record.SlotRecord.TheVariants as found_as

-- the stamp that a counter gives next
abbrev pub counter_of : SlotRecord → Option ℕ
counter_of (found_as.Counter next) = Some next
counter_of (found_as.Other r) = None

-- another record
abbrev pub other_of : SlotRecord → Option KeptRecord
other_of (found_as.Counter next) = None
other_of (found_as.Other r) = Some r
