-- What is left is still to be put behind what was.
use Rattle.std.proofs.Common.{◌≡◌, drop}
use Rattle.std.specs.List.{flat_map}
use Rattle.scql_base.specs.Strings.{spelled}
use Rattle.scql_model.specs.Spelling.{condition_strings}
use Rattle.apdu.specs.Writing.{with_more}
use Rattle.apdu.proofs.field.Field.put_conditions.Given as goal

abbrev pub invariant-loop-condition : goal.invariant-loop-condition
invariant-loop-condition l = with_more (flat_map spelled (flat_map condition_strings (drop l.condition-index l.conditions))) l.self ≡ with_more (flat_map spelled (flat_map condition_strings l.conditions)) l.initial.self
