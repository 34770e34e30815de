-- The changes that were passed are to columns.
use Rattle.std.proofs.Common.{◌≡◌, length}
use Rattle.db_write.proofs.RowUpdated.{named}
use Rattle.db_write.proofs.updating.are_named.Given as goal

abbrev pub invariant-loop-name : goal.invariant-loop-name
invariant-loop-name l = named l.left l.columns ≡ named l.fn.changes l.columns

abbrev pub decreases-loop-name : goal.decreases-loop-name
decreases-loop-name l = length l.left
