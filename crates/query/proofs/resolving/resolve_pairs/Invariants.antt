use Rattle.std.proofs.Common.{◌≡◌, [], length}
use Rattle.query.specs.Resolving as resolving
use Rattle.query.specs.Resolving.{in_turn}
use Rattle.query.proofs.InTurn.{IsInTurn}
use Rattle.query.proofs.resolving.resolve_pairs.Given as goal

abbrev pub invariant-loop-pair : goal.invariant-loop-pair
invariant-loop-pair l = record {
  found : IsInTurn resolving.equality (in_turn resolving.equality [] l.fn.pairs l.fn.objects) l.found l.fn.pairs l.pair-index l.objects;
  count : length l.found ≡ l.pair-index;
}
