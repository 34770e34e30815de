use Rattle.std.proofs.Common.{refl}
use Rattle.scql_base.proofs.Splitting.{params_of-empty}
use Rattle.planner.proofs.row_octets.RowOctets.new.Goals as goal

pub invariant_of-result : goal.invariant_of-result
invariant_of-result c = rw (c.new.ensures, c.new-2.ensures, params_of-empty) refl
