-- Rows: of a table, behind a stamp, and in the place of another.
use Rattle.std.specs.Prelude.{◌≡◌, ℕ, ◌==◌, ◌&&◌, nat_lt, Bool, Some}
use Rattle.eeprom.specs.StoreOf.{Slots}
use Rattle.scql_base.specs.declared.records.RowRecord.{RowRecord}
use Rattle.catalog_codec.specs.Catalog.{row_kind}
use Rattle.record_table.specs.Listed.{at_slot}

-- whether a row is of a table and has a stamp above another
abbrev pub is_row_after : ℕ → ℕ → RowRecord → Bool
is_row_after table stamp row = row.table == table && nat_lt stamp row.stamp

-- whether a row is in the table of a stamp
abbrev pub is_in : ℕ → RowRecord → Bool
is_in table row = row.table == table

-- The slot has a row of the same stamp and the same table as another.
pub record HasRowLike (row : RowRecord) (slot : ℕ) (slots : Slots) : Type 0 where
  pub was : RowRecord
  pub at : at_slot row_kind slot slots ≡ Some was
  pub stamp : row.stamp ≡ was.stamp
  pub table : row.table ≡ was.table
