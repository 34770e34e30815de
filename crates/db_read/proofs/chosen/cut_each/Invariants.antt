-- The values so far, if the whole is a row.
use Rattle.db_read.proofs.CutRows.{AreCut}
use Rattle.db_read.proofs.chosen.cut_each.Given as goal

abbrev pub invariant-loop-place : goal.invariant-loop-place
invariant-loop-place l = AreCut l.places.items l.row l.place-index l.out
