use Rattle.std.proofs.Common.{◌≡◌, take}
use Rattle.row_join.specs.Links.{links_of}
use Rattle.row_join.proofs.index.links_from.Given as goal

abbrev pub invariant-loop-equality : goal.invariant-loop-equality
invariant-loop-equality l = l.links.items ≡ links_of l.object (take l.equality-index l.equalities)
