-- Which rows of a table a cursor chooses, and what it shows of them.
use Rattle.std.specs.Prelude.{◌≡◌, ℕ, ◌==◌, nat_le, nat_lt, Bool, true, ◌&&◌, if◌then◌else◌, List, [], ◌∷◌, map, filter, Option, Some, None, option_and_then, slice_index_or}
use Rattle.std.specs.List.{find, list_all}
use Rattle.eeprom.specs.Slots.{Rises}
use Rattle.eeprom.specs.StoreOf.{Slots}
use Rattle.scql_base.specs.Row.{are_a_row, row_size}
use Rattle.scql_base.specs.declared.records.RowRecord.{RowRecord}
use Rattle.scql_model.specs.Matching.{Values}
use Rattle.scql_model.specs.Objects.{StampedRow}
use Rattle.catalog_codec.specs.Catalog.{row_kind}
use Rattle.record_table.specs.Listed.{listed}
use Rattle.search_cond.specs.Bound.{passes}
use Rattle.cursor.specs.Costs.{Cost}
use Rattle.db_read.specs.Costs.{row_costs}
use Rattle.db_read.specs.declared.chosen.Chosen.{Chosen}

-- the values at some places; where there is none it is empty
abbrev pub values_at : List ℕ → Values → Values
values_at places values = map (λ (place : ℕ). slice_index_or values place []) places

-- a row's values meet the cursor's conditions and pass each filter
abbrev pub is_shown : Chosen → Values → Bool
is_shown chosen values = passes values chosen.conditions.now && list_all (passes values) chosen.filters.now

-- a row of the table whose values are shown
abbrev pub is_chosen : Chosen → RowRecord → Bool
is_chosen chosen r = r.table == chosen.table && is_shown chosen r.row

abbrev pub shown_row : Chosen → RowRecord → StampedRow
shown_row chosen r = record { stamp = r.stamp; values = values_at chosen.places.now.items r.row }

abbrev pub chosen_rows : Chosen → List RowRecord → List StampedRow
chosen_rows chosen rows = map (shown_row chosen) (filter (is_chosen chosen) rows)

-- each stamp is less than all behind it
abbrev pub are_rising : List RowRecord → Bool
are_rising [] = true
are_rising (r ∷ rows) = list_all (λ (s : RowRecord). nat_lt r.stamp s.stamp) rows && are_rising rows

-- what is shown of a row is a row, and no longer
abbrev pub can_cut : Chosen → RowRecord → Bool
can_cut chosen r = are_a_row (values_at chosen.places.now.items r.row) && nat_le (row_size (values_at chosen.places.now.items r.row)) (row_size r.row)

-- rows in order, of which each that is chosen can be shown
abbrev pub can_show : Chosen → List RowRecord → Bool
can_show chosen rows = are_rising rows && list_all (can_cut chosen) (filter (is_chosen chosen) rows)

-- something of the rows of slots, where what is chosen of them can be shown
abbrev pub where_shown : {X : Type 0} → (Chosen → Slots → X) → Chosen → Option Slots → Option X
where_shown {X} f chosen slots = option_and_then (λ (slots : Slots). if can_show chosen (listed row_kind slots) then Some (f chosen slots) else None) slots

-- what is shown of the rows of slots
abbrev pub rows_shown : Chosen → Option Slots → Option (List StampedRow)
rows_shown chosen slots = where_shown (λ chosen slots. chosen_rows chosen (listed row_kind slots)) chosen slots

-- what reading the rows of the table may cost
abbrev pub costs_shown : Chosen → Option Slots → Option (List Cost)
costs_shown chosen slots = where_shown (λ chosen slots. row_costs chosen.table slots) chosen slots

-- the row is the first of the chosen ones behind a stamp, where the stamps of all rise
abbrev pub IsNextShown : Chosen → ℕ → Option RowRecord → Slots → Type 0
IsNextShown chosen stamp next slots = Rises row_kind.key (listed row_kind slots) → next ≡ find (λ (r : RowRecord). nat_lt stamp r.stamp && is_chosen chosen r) (listed row_kind slots)
