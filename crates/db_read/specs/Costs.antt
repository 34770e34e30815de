-- What reading the rows of a table may cost.
use Rattle.std.specs.Prelude.{ℕ, ◌==◌, ◌*◌, Bool, if◌then◌else◌, List, Option, Some, None, option_and_then, option_map}
use Rattle.std.specs.List.{filter_map}
use Rattle.eeprom.specs.Slots.{in_slot}
use Rattle.eeprom.specs.StoreOf.{Slots, cell_size}
use Rattle.scql_base.specs.Row.{row_size}
use Rattle.scql_base.specs.declared.records.RowRecord.{RowRecord}
use Rattle.catalog_codec.specs.Catalog.{row_kind}
use Rattle.catalog_codec.specs.Kinds.{read_as}
use Rattle.record_table.specs.Listed.{kind_cells}
use Rattle.cursor.specs.Costs.{Cost, cost_behind, cost_of}

-- the cells of a slot that has a row of the table
abbrev pub cost_in : ℕ → Option (List ℕ) → Option Cost
cost_in table entry = option_and_then (λ (r : RowRecord). if r.table == table then Some (record { stamp = r.stamp; octets = cell_size * kind_cells row_kind entry }) else None) (in_slot (read_as row_kind) entry)

-- the stamps of the rows of a table, with what reading the cells of each may cost
abbrev pub row_costs : ℕ → Slots → List Cost
row_costs table slots = filter_map (cost_in table) slots

-- what reading one row may cost, if there is one
abbrev pub cost_reached : ℕ → Slots → Option RowRecord → ℕ
cost_reached table slots None = 0
cost_reached table slots (Some r) = cost_of r.stamp (row_costs table slots)

-- what reading the rows behind a stamp may cost, up to one that was reached or to the end
abbrev pub cost_passed : ℕ → ℕ → Slots → Option RowRecord → ℕ
cost_passed table stamp slots reached = cost_behind stamp (option_map (λ (r : RowRecord). r.stamp) reached) (row_costs table slots)

-- a row that is read has as many octets at least
abbrev pub least_of : Option RowRecord → ℕ
least_of None = 0
least_of (Some r) = row_size r.row

-- a row that was read into a place, where there was one
abbrev pub row_read : Bool → RowRecord → Option RowRecord
row_read there row = if there then Some row else None
