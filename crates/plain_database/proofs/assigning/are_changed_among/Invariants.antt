-- The columns that were passed are among all.
use Rattle.std.proofs.Common.{◌≡◌, ℕ, List, length, map}
use Rattle.scql_model.specs.Rules.{are_among}
use Rattle.plain_database.proofs.assigning.are_changed_among.Given as goal

abbrev pub invariant-loop-column : goal.invariant-loop-column
invariant-loop-column l = are_among (map (λ (a : List ℕ × List ℕ). a.0) l.left) l.all ≡ are_among (map (λ (a : List ℕ × List ℕ). a.0) l.fn.changes) l.all

abbrev pub decreases-loop-column : goal.decreases-loop-column
decreases-loop-column l = length l.left
