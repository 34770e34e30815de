-- The stamps so far, and those of the records from here on.
use Rattle.std.proofs.Common.{◌≡◌, ◌++◌, drop, map}
use Rattle.plain_image.proofs.stamps.push_stamps.Given as goal

abbrev pub invariant-loop-record : goal.invariant-loop-record
invariant-loop-record g l = l.fn.stamps.items ++ map g.R.Record.kind.key l.records ≡ l.stamps.items ++ map g.R.Record.kind.key (drop l.record-index l.records)
