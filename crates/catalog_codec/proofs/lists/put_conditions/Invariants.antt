-- What is put and what is still to be put are the whole.
use Rattle.std.proofs.Common.{◌≡◌, ◌++◌, drop}
use Rattle.std.specs.List.{flat_map}
use Rattle.scql_model.specs.Records.{conditions}
use Rattle.catalog_codec.specs.Conditions.{condition}
use Rattle.catalog_codec.proofs.lists.put_conditions.Given as goal

abbrev pub invariant-loop-condition : goal.invariant-loop-condition
invariant-loop-condition l = l.out.items ++ flat_map condition.spell (drop l.condition-index l.condition-items) ≡ l.fn.out.items ++ conditions.spell l.conditions
