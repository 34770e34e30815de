-- No stamp up to here is too great.
use Rattle.std.proofs.Common.{◌≡◌, length}
use Rattle.plain_image.specs.Rules as rules
use Rattle.plain_image.proofs.stamps.do_rise.Given as goal

abbrev pub invariant-loop-rest : goal.invariant-loop-rest
invariant-loop-rest g l = rules.rise_by g.R.Record.kind.key l.records ≡ rules.rise_by g.R.Record.kind.key l.rest

abbrev pub decreases-loop-rest : goal.decreases-loop-rest
decreases-loop-rest g l = length l.rest
