-- What the columns so far make of the row, with what is left of it, is the whole.
use Rattle.std.proofs.Common.{◌≡◌, drop, length}
use Rattle.scql_model.specs.Writing.{all_assigned}
use Rattle.db_write.proofs.RowAssigned.{IsUnassigned}
use Rattle.db_write.proofs.assigning.assigned.Given as goal

abbrev pub invariant-loop-column : goal.invariant-loop-column
invariant-loop-column l = record {
  left : IsUnassigned l.changes (drop l.column-index l.column-items) (all_assigned l.changes l.columns l.row) l.row l.after l.rest;
  many : length l.after ≡ l.column-index;
}
