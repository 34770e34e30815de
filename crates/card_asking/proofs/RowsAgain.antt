-- A row is read as the row that its octets are.
use Rattle.std.proofs.Common.{◌≡◌, ◌≤◌, nat_le, ◌&&◌, true, length, Some, arith}
use Rattle.std.specs.List.{list_all}
use Rattle.std.proofs.lemmas.Bool.{and_parts, leb-true}
use Rattle.scql_base.specs.Row.{is_narrow, row_from, row_size}
use Rattle.scql_base.proofs.RowOctets.{row_from-row, row_size-spelled}
use Rattle.scql_base.proofs.Splitting.{params_of-again}
use Rattle.scql_model.specs.Matching.{Values}
use Rattle.scql_model.specs.ReadingCommands.{row_octets}
use Rattle.scql_model.specs.Records.{is_count_of_columns, is_row}

-- a row has a value, and is one that a command may have
record IsFull (row : Values) : Type 0 where
  some : 1 ≤ length row
  few : length row ≤ 15
  narrow : list_all is_narrow row ≡ true
  short : row_size row ≤ 1020

full : (row : Values) → is_row row ≡ true → IsFull row
full row is =
    let parts = and_parts (is_count_of_columns (length row) && list_all is_narrow row) (nat_le (row_size row) 1020) is in
    let fronts = and_parts (is_count_of_columns (length row)) (list_all is_narrow row) parts.0 in
    let counts = and_parts (nat_le 1 (length row)) (nat_le (length row) 15) fronts.0 in
    record {
      some = leb-true 1 (length row) counts.0;
      few = leb-true (length row) 15 counts.1;
      narrow = fronts.1;
      short = leb-true (row_size row) 1020 parts.1;
    }

pub read-again : (row : Values) → is_row row ≡ true → row_from (row_octets row) ≡ Some row
read-again row is =
    let f = full row is in
    row_from-row (row_octets row) row (params_of-again row) f.few (omega (arith, row_size-spelled row, f.short)) f.narrow

pub row-some : (row : Values) → is_row row ≡ true → 1 ≤ length row
row-some row is = (full row is).some
