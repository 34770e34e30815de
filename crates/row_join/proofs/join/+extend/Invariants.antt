use Rattle.std.proofs.Common.{◌≡◌, ◌≤◌, ◌-◌, ◌+◌, ◌++◌, length, take, set, flat_map}
use Rattle.row_join.specs.declared.join.TheConstants.{MOST_KEPT}
use Rattle.row_join.specs.Joined.{kept_after}
use Rattle.row_join.specs.Places.{all_rows}
use Rattle.row_join.proofs.join.+extend.Given as goal

abbrev pub decreases-extend : goal.decreases-extend
decreases-extend l = length l.tables.now - l.object

-- what was found so far is extended
abbrev pub invariant-loop-place : goal.invariant-loop-place
invariant-loop-place l = record {
  kept : all_rows l.tables l.kept.items ≡ all_rows l.tables l.fn.kept.items ++ flat_map (λ place. kept_after (l.object + 1) l.equalities l.tables (set l.combination.places l.object place)) (take l.place-index l.place-items);
  few : length l.kept.items ≤ MOST_KEPT;
}
