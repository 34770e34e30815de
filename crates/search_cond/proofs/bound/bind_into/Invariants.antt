-- What is bound and what is still to be bound are all conditions, and their columns so far are known.
use Rattle.std.proofs.Common.{◌≡◌, ◌≤◌, ◌&&◌, length, drop}
use Rattle.scql_model.specs.Matching.{Values, matches}
use Rattle.search_cond.specs.Bound.{first_unknown, passes}
use Rattle.search_cond.proofs.bound.bind_into.Given as goal

abbrev pub invariant-loop-condition : goal.invariant-loop-condition
invariant-loop-condition l = record {
  met : (values : Values) → (passes values l.bound-inside.held.items && matches l.columns (drop l.condition-index l.condition-items) values) ≡ matches l.columns l.conditions values;
  known : first_unknown l.columns (drop l.condition-index l.condition-items) ≡ first_unknown l.columns l.conditions;
  count : length l.bound-inside.held.items ≡ l.condition-index;
  fits : length l.condition-items ≤ 8;
}
