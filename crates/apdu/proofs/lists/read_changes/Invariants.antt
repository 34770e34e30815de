-- The changes so far, before those of the octets that are left.
use Rattle.std.proofs.Common.{◌≡◌, ◌≤◌, ◌+◌, length, map}
use Rattle.scql_base.specs.Changes.{ArePacked, change_octets}
use Rattle.scql_base.specs.Strings.{params_of}
use Rattle.apdu.proofs.NamesRead.{behind}
use Rattle.apdu.proofs.ListsRead.{Assigned, changes_of}
use Rattle.apdu.proofs.lists.read_changes.Given as goal

abbrev pub invariant-loop-column : goal.invariant-loop-column
invariant-loop-column l = record {
  told : behind l.changes (changes_of (params_of l.rest)) ≡ changes_of (params_of l.fn.octets);
  columns : l.columns ≡ map (λ (change : Assigned). change.0) l.changes;
  packed : ArePacked l.changes;
  size : length (change_octets l.changes) + length l.rest ≤ length l.fn.octets;
}

abbrev pub decreases-loop-column : goal.decreases-loop-column
decreases-loop-column l = length l.rest
