-- No object up to here has the name of another.
use Rattle.std.proofs.Common.{◌≡◌, length}
use Rattle.scql_model.specs.Rules as model
use Rattle.plain_image.specs.Rules as rules
use Rattle.plain_image.proofs.objects.have_different_names.Given as goal

abbrev pub invariant-loop-rest : goal.invariant-loop-rest
invariant-loop-rest l = model.are_apart_by rules.are_objects_of_one_name l.objects ≡ model.are_apart_by rules.are_objects_of_one_name l.rest

abbrev pub decreases-loop-rest : goal.decreases-loop-rest
decreases-loop-rest l = length l.rest
