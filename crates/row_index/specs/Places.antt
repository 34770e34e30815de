-- Where the rows of a store stand.
use Rattle.std.specs.Prelude.{ℕ, suc, ◌+◌, ◌*◌, ◌==◌, ◌&&◌, nat_lt, Bool, List, [], ◌∷◌, Option, option_map}
use Rattle.std.specs.List.{filter_map}
use Rattle.eeprom.specs.Slots.{in_order, in_slot}
use Rattle.eeprom.specs.StoreOf.{Slots}
use Rattle.scql_base.specs.declared.records.RowRecord.{RowRecord}
use Rattle.catalog_codec.specs.Catalog.{row_kind}
use Rattle.catalog_codec.specs.Kinds.{read_as}
use Rattle.row_index.specs.declared.place.RowPlace.{RowPlace}

abbrev pub place_stamp : RowPlace → ℕ
place_stamp place = place.stamp

abbrev pub place_slot : RowPlace → ℕ
place_slot place = place.slot

-- a table and a stamp in one number, which is greater for a greater table, and in one table for a greater stamp
abbrev pub key_in_table : ℕ → ℕ → ℕ
key_in_table table stamp = table * 4294967296 + stamp

-- the number by which places are in order: of their tables, and in one table of their stamps
abbrev pub place_key : RowPlace → ℕ
place_key place = key_in_table place.table place.stamp

-- whether it is the place of a row of a table
abbrev pub is_in_table : ℕ → RowPlace → Bool
is_in_table table place = place.table == table

-- whether it is the place of the row of a table and a stamp
abbrev pub is_row_of : ℕ → ℕ → RowPlace → Bool
is_row_of table stamp place = place.table == table && place.stamp == stamp

-- whether it is the place of a row of a table with a stamp above another
abbrev pub is_later_in : ℕ → ℕ → RowPlace → Bool
is_later_in table stamp place = place.table == table && nat_lt stamp place.stamp

-- slots with their numbers, from one on
abbrev pub numbered : ℕ → Slots → List (ℕ × Option (List ℕ))
numbered slot [] = []
numbered slot (entry ∷ slots) = (slot, entry) ∷ numbered (suc slot) slots

-- where a row stands
abbrev pub place_of : ℕ → RowRecord → RowPlace
place_of slot row = record { stamp = row.stamp; table = row.table; slot = slot }

-- where the row of a slot stands, if there is one
abbrev pub place_in : ℕ × Option (List ℕ) → Option RowPlace
place_in entry = option_map (place_of entry.0) (in_slot (read_as row_kind) entry.1)

-- where the rows of slots stand, in order
abbrev pub row_places : Slots → List RowPlace
row_places slots = in_order place_key (filter_map place_in (numbered 0 slots))
