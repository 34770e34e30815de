use Rattle.std.proofs.Common.{◌≡◌, drop}
use Rattle.card.specs.Apart as apart
use Rattle.card.proofs.apart.differs_from_next.Given as goal

abbrev pub invariant-loop-number : goal.invariant-loop-number
invariant-loop-number l = record {
  left : apart.differ_from_next l.first l.rest ≡ apart.differ_from_next l.last (drop l.number-index l.rest);
}
