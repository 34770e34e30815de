use Rattle.std.proofs.Common.{◌≡◌, [], length}
use Rattle.query.specs.Resolving as resolving
use Rattle.query.specs.Resolving.{in_turn}
use Rattle.query.proofs.InTurn.{IsInTurn}
use Rattle.query.proofs.resolving.resolve_columns.Given as goal

abbrev pub invariant-loop-column : goal.invariant-loop-column
invariant-loop-column l = record {
  found : IsInTurn resolving.column (in_turn resolving.column [] l.fn.columns l.fn.objects) l.found l.fn.columns l.column-index l.objects;
  count : length l.found ≡ l.column-index;
}
