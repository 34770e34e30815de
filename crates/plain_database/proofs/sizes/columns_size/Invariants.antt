-- The octets of the columns so far.
use Rattle.std.proofs.Common.{◌≡◌, ◌+◌, ◌*◌, ◌≤◌, length, take}
use Rattle.std.specs.List.{sum_by}
use Rattle.plain_database.proofs.sizes.columns_size.Given as goal

abbrev pub invariant-loop-column : goal.invariant-loop-column
invariant-loop-column l = record {
  size : l.size ≡ 1 + sum_by (λ column. 1 + length column) (take l.column-index l.columns);
  short : l.size ≤ 1 + 9 * l.column-index;
}
