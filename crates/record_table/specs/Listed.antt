-- The records of one kind in the slots of a store.
use Rattle.std.specs.Prelude.{ℕ, Bool, false, List, Option, None, if◌then◌else◌, option_and_then, slice_index_or}
use Rattle.std.specs.List.{filter_map, sum_by}
use Rattle.std.specs.Option.{option_map_or}
use Rattle.eeprom.specs.Chip.{Chip}
use Rattle.eeprom.specs.Slots.{kept, in_slot}
use Rattle.eeprom.specs.StoreOf.{Slots, cells_of}
use Rattle.record_store.specs.Held.{Held, contents, first_octet}
use Rattle.record_store.specs.declared.side.Side.{Side}
use Rattle.catalog_codec.specs.Kinds.{Kind, read_as}

-- the records of a kind, in rising order of their keys
abbrev pub listed : {X : Type 0} → Kind X → Slots → List X
listed {X} kind slots = kept kind.key (read_as kind) slots

-- the records of a kind as the slots have them, the lowest slot first
abbrev pub in_slots : {X : Type 0} → Kind X → Slots → List X
in_slots {X} kind slots = filter_map (in_slot (read_as kind)) slots

-- the record of a slot, if it is of the kind
abbrev pub at_slot : {X : Type 0} → Kind X → ℕ → Slots → Option X
at_slot {X} kind slot slots = in_slot (read_as kind) (slice_index_or slots slot None)

-- the first octet of a slot's record is a mark of the kind
abbrev pub has_kind_mark : {X : Type 0} → Kind X → Option (List ℕ) → Bool
has_kind_mark {X} kind entry = option_map_or kind.marks (first_octet entry) false

-- how many cells the record of a slot has, if it is marked so, and how many all records that are
abbrev pub kind_cells : {X : Type 0} → Kind X → Option (List ℕ) → ℕ
kind_cells {X} kind entry = if has_kind_mark kind entry then cells_of entry else 0

abbrev pub cells_marked : {X : Type 0} → Kind X → Slots → ℕ
cells_marked {X} kind slots = sum_by (kind_cells kind) slots

-- the slots of a side, where the EEPROM tells its image
abbrev pub slots_of : Held → Side → Chip → Option Slots
slots_of store side chip = option_and_then (contents store side) chip.image
