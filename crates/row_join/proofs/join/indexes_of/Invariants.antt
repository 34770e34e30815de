use Rattle.std.proofs.Common.{◌≡◌, ℕ, ◌<◌, [], length, slice_index_or}
use Rattle.row_join.specs.declared.index.Index.{Index}
use Rattle.row_join.specs.Places.{IsIndex}
use Rattle.row_join.proofs.join.indexes_of.Given as goal

-- each object so far has its index
abbrev pub invariant-loop-object : goal.invariant-loop-object
invariant-loop-object l = record {
  count : length l.indexes.items ≡ l.object;
  each : (k : ℕ) (none : Index) → k < length l.indexes.items → IsIndex k l.equalities (slice_index_or l.tables k []) (slice_index_or l.indexes.items k none).links.items (slice_index_or l.indexes.items k none).places.items;
}
