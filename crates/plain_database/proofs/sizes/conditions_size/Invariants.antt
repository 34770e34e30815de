-- The octets of the conditions so far.
use Rattle.std.proofs.Common.{◌≡◌, ◌+◌, ◌*◌, ◌≤◌, length, take}
use Rattle.std.specs.List.{sum_by}
use Rattle.scql_base.specs.declared.condition.Condition.{Condition}
use Rattle.plain_database.proofs.sizes.conditions_size.Given as goal

abbrev pub invariant-loop-condition : goal.invariant-loop-condition
invariant-loop-condition l = record {
  size : l.size ≡ 1 + sum_by (λ (c : Condition). 3 + length c.column + length c.value) (take l.condition-index l.conditions);
  short : l.size ≤ 1 + 211 * l.condition-index;
}
