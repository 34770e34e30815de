use Rattle.std.proofs.Common.{◌≡◌, length, map, take}
use Rattle.query.specs.Resolving as resolving
use Rattle.query.proofs.resolving.unnamed.Given as goal

abbrev pub invariant-loop-source : goal.invariant-loop-source
invariant-loop-source l = record {
  unnamed : l.objects.items ≡ map resolving.unnamed (take l.source-index l.sources);
  count : length l.objects.items ≡ l.source-index;
}
