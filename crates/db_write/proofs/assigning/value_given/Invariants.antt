-- The changes that were passed give the column none.
use Rattle.std.proofs.Common.{◌≡◌, length}
use Rattle.db_write.specs.Assigned.{value_given}
use Rattle.db_write.proofs.assigning.value_given.Given as goal

abbrev pub invariant-loop-name : goal.invariant-loop-name
invariant-loop-name l = value_given l.left l.column ≡ value_given l.fn.changes l.column

abbrev pub decreases-loop-name : goal.decreases-loop-name
decreases-loop-name l = length l.left
