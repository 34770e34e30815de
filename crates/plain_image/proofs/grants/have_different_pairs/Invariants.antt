-- No grant up to here is of the pair of another.
use Rattle.std.proofs.Common.{◌≡◌, length}
use Rattle.scql_model.specs.Rules as model
use Rattle.plain_image.proofs.grants.have_different_pairs.Given as goal

abbrev pub invariant-loop-rest : goal.invariant-loop-rest
invariant-loop-rest l = model.are_apart_by model.is_of_pair l.grants ≡ model.are_apart_by model.is_of_pair l.rest

abbrev pub decreases-loop-rest : goal.decreases-loop-rest
decreases-loop-rest l = length l.rest
