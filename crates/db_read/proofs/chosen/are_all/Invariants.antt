-- The places so far are those of the first values.
use Rattle.std.proofs.Common.{◌≡◌}
use Rattle.db_read.proofs.CutRows.{AreFirst}
use Rattle.db_read.proofs.chosen.are_all.Given as goal

abbrev pub invariant-loop-place : goal.invariant-loop-place
invariant-loop-place l = record { counted : l.next ≡ l.place-index; first : AreFirst l.places l.place-index }
