use Rattle.std.proofs.Common.{◌≡◌, map, take, filter}
use Rattle.row_join.specs.Links.{meets_own}
use Rattle.row_join.specs.Places.{row_at}
use Rattle.row_join.proofs.index.places_from.Given as goal

abbrev pub invariant-loop-place : goal.invariant-loop-place
invariant-loop-place l = map (row_at l.rows) l.places.items ≡ filter (meets_own l.object l.equalities) (take l.place l.rows)
