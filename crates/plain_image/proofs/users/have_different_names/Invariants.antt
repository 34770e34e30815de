-- No user up to here has the name of another.
use Rattle.std.proofs.Common.{◌≡◌, length}
use Rattle.scql_model.specs.Rules as model
use Rattle.plain_image.specs.Rules as rules
use Rattle.plain_image.proofs.users.have_different_names.Given as goal

abbrev pub invariant-loop-rest : goal.invariant-loop-rest
invariant-loop-rest l = model.are_apart_by rules.are_namesakes l.users ≡ model.are_apart_by rules.are_namesakes l.rest

abbrev pub decreases-loop-rest : goal.decreases-loop-rest
decreases-loop-rest l = length l.rest
