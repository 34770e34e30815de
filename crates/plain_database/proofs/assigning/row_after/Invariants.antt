-- The values of the columns so far.
use Rattle.std.proofs.Common.{◌≡◌, take}
use Rattle.scql_model.specs.Writing.{all_assigned}
use Rattle.plain_database.proofs.assigning.row_after.Given as goal

abbrev pub invariant-loop-place : goal.invariant-loop-place
invariant-loop-place l = l.after ≡ take l.place (all_assigned l.changes l.columns l.row)
