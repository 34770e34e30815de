use Rattle.std.proofs.Common.{◌≡◌, take}
use Rattle.std.specs.List.{list_any}
use Rattle.record_store.proofs.tags.is_among.Given as goal

abbrev pub invariant-loop-other : goal.invariant-loop-other
invariant-loop-other g l = l.found ≡ list_any (λ other. g.T.PartialEq.eq other l.tag) (take l.other-index l.tags)
