-- So many are copied as were passed.
use Rattle.std.proofs.Common.{◌≡◌, ◌≤◌, length, take}
use Rattle.scql_base.proofs.conditions.ConditionsCopied.copy.Given as goal

abbrev pub invariant-loop-condition : goal.invariant-loop-condition
invariant-loop-condition l = record {
  copied : l.held.items ≡ take l.condition-index l.condition-items;
  fits : length l.condition-items ≤ 8;
}
