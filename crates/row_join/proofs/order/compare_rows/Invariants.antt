use Rattle.std.proofs.Common.{◌≡◌, drop}
use Rattle.row_join.specs.Joins.{compare_values, values_at}
use Rattle.row_join.specs.Places.{rows_of}
use Rattle.row_join.proofs.order.compare_rows.Given as goal

-- what is left decides
abbrev pub invariant-loop-column : goal.invariant-loop-column
invariant-loop-column l =
    compare_values (values_at (drop l.column-index l.order) (rows_of l.tables l.first.places)) (values_at (drop l.column-index l.order) (rows_of l.tables l.second.places))
    ≡ compare_values (values_at l.order (rows_of l.tables l.first.places)) (values_at l.order (rows_of l.tables l.second.places))
