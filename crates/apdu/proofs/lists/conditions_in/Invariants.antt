-- The conditions so far, before those of the octets that are left.
use Rattle.std.proofs.Common.{◌≡◌, ◌≤◌, true, length}
use Rattle.std.specs.List.{list_all}
use Rattle.scql_base.specs.Strings.{params_of}
use Rattle.apdu.proofs.NamesRead.{behind}
use Rattle.apdu.proofs.ListsRead.{conditions_of, is_condition}
use Rattle.apdu.proofs.lists.conditions_in.Given as goal

abbrev pub invariant-loop-column : goal.invariant-loop-column
invariant-loop-column l = record {
  told : behind l.conditions (conditions_of (params_of l.rest)) ≡ conditions_of (params_of l.fn.octets);
  few : length l.conditions ≤ 8;
  each : list_all is_condition l.conditions ≡ true;
}

abbrev pub decreases-loop-column : goal.decreases-loop-column
decreases-loop-column l = length l.rest
