-- The values in the wanted columns so far.
use Rattle.std.proofs.Common.{◌≡◌, take}
use Rattle.scql_model.specs.Contents as contents
use Rattle.plain_database.proofs.matching.cut_to.Given as goal

abbrev pub invariant-loop-name : goal.invariant-loop-name
invariant-loop-name l = l.cut ≡ contents.cut_to l.columns (take l.name-index l.wanted) l.row
