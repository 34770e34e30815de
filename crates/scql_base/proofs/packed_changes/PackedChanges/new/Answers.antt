use Rattle.std.proofs.Common.{refl}
use Rattle.scql_base.proofs.PackedRuns.{ArePacked-none, changes-empty}
use Rattle.scql_base.proofs.packed_changes.PackedChanges.new.Goals as goal

pub invariant_of-result : goal.invariant_of-result
invariant_of-result c = rw (changes-empty c.new.result.items c.new.ensures) (ArePacked-none, c.new.ensures, refl)

pub returns : goal.returns
returns c = changes-empty c.new.result.items c.new.ensures
