-- The cells of the records so far.
use Rattle.std.proofs.Common.{◌≡◌, ◌+◌, min, take}
use Rattle.std.specs.List.{sum_by}
use Rattle.scql_model.specs.Edits.{cells_of_record}
use Rattle.plain_database.proofs.room.weigh.Given as goal

abbrev pub invariant-loop-record : goal.invariant-loop-record
invariant-loop-record g l = l.all ≡ min (l.cells + sum_by (λ r. cells_of_record (g.R.Record.entry r)) (take l.record-index l.records)) 0xFFFF_FFFF
