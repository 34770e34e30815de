-- The changes that were passed give the column no value.
use Rattle.std.proofs.Common.{◌≡◌, length}
use Rattle.scql_model.specs.Writing.{assigned}
use Rattle.plain_database.proofs.assigning.value_assigned.Given as goal

abbrev pub invariant-loop-name : goal.invariant-loop-name
invariant-loop-name l = assigned l.left l.column l.own ≡ assigned l.fn.changes l.column l.own

abbrev pub decreases-loop-name : goal.decreases-loop-name
decreases-loop-name l = length l.left
