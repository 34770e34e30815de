-- What is left is still to be put behind what was.
use Rattle.std.proofs.Common.{◌≡◌, drop}
use Rattle.std.specs.List.{flat_map}
use Rattle.scql_base.specs.Strings.{spelled}
use Rattle.apdu.specs.Writing.{with_more}
use Rattle.apdu.proofs.field.Field.put_names.Given as goal

abbrev pub invariant-loop-name : goal.invariant-loop-name
invariant-loop-name l = with_more (flat_map spelled (drop l.name-index l.names)) l.self ≡ with_more (flat_map spelled l.names) l.initial.self
