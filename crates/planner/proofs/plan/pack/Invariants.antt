-- So many are packed as were passed.
use Rattle.std.proofs.Common.{◌≡◌, take, map}
use Rattle.scql_base.specs.Changes.{ArePacked}
use Rattle.scql_base.specs.declared.changes.Change.{Change}
use Rattle.planner.proofs.plan.pack.Given as goal

abbrev pub invariant-loop-change : goal.invariant-loop-change
invariant-loop-change l = record {
  passed : l.packed ≡ map (λ (change : Change). change.pair) (take l.change-index l.change-items);
  packed : ArePacked l.packed;
}
