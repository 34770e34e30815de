use Rattle.std.proofs.Common.{◌≡◌, drop, map}
use Rattle.scql_base.specs.declared.condition.Condition.{Condition}
use Rattle.scql_model.specs.Rules as rules
use Rattle.card.proofs.founded.are_conditions_among.Given as goal

abbrev pub invariant-loop-condition : goal.invariant-loop-condition
invariant-loop-condition l = record {
  left : rules.are_among (map (λ (c : Condition). c.column) l.conditions) l.columns ≡ rules.are_among (map (λ (c : Condition). c.column) (drop l.condition-index l.conditions)) l.columns;
}
