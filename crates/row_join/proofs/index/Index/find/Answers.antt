use Rattle.std.proofs.Common.{◌≡◌, ℕ, List, drop, ◌∙◌, ap, sym, rules, Ordering, is_lt, is_le}
use Rattle.std.specs.List.Sorted.{IsPartitionedBy}
use Rattle.std.specs.Ordering.{ordering_index}
use Rattle.std.proofs.lemmas.Cmp.{lists_total, nat_list_cmp_total}
use Rattle.std.proofs.lemmas.List.Sorted.{IsPartitionPoint-from_clause, searchable_from_sorted, IsNonDecreasingBy-drop}
use Rattle.row_join.specs.Joins.{compare_values}
use Rattle.row_join.specs.Links.{key_of, probe_of}
use Rattle.row_join.specs.Places.{row_at, rows_of}
use Rattle.row_join.proofs.Indexes.{parted-less, parted-at_most, equals-between}
use Rattle.row_join.proofs.index.Index.find.Goals as goal

pub returns : goal.returns
returns c =
    let links = c.args.self.now.links.items in
    let places : List ℕ = c.args.self.now.places.items in
    let key = λ (place : ℕ). key_of links (row_at c.args.rows.now place) in
    let probe = probe_of links (rows_of c.args.before.now c.args.combination.now.places) in
    let r : ℕ → Ordering = λ place. compare_values (key place) probe in
    let up = searchable_from_sorted (lists_total nat_list_cmp_total) key places probe c.requires.ordered in
    let less : IsPartitionedBy (λ place. is_lt (r place)) c.deref.result.now = rw c.deref.ensures.value (parted-less r places up) in
    let first = IsPartitionPoint-from_clause (λ place. is_lt (r place)) c.deref.result.now c.partition_point-first.result c.partition_point-first.ensures.partitioned less (λ a r q k. search rules) in
    let back : c.split_at.result.1.now ≡ drop c.partition_point-first.result places = c.split_at.ensures.back ∙ ap (drop c.partition_point-first.result) c.deref-2.ensures.value in
    let at_most : IsPartitionedBy (λ place. is_le (r place)) c.split_at.result.1.now = rw back (parted-at_most r (drop c.partition_point-first.result places) (IsNonDecreasingBy-drop (λ place. ordering_index (r place)) c.partition_point-first.result places up)) in
    let second = IsPartitionPoint-from_clause (λ place. is_le (r place)) c.split_at.result.1.now c.partition_point-count.result c.partition_point-count.ensures.partitioned at_most (λ a r q k. search rules) in
    c.split_at-2.ensures.front
    ∙ equals-between r places c.split_at.result.1.now c.partition_point-first.result c.partition_point-count.result back (rw (sym c.deref.ensures.value) c.partition_point-first.ensures.bound) c.partition_point-count.ensures.bound (rw c.deref.ensures.value at first) second
