-- What is left to find from here on.
use Rattle.std.proofs.Common.{◌≡◌, filter, drop}
use Rattle.scql_model.specs.Rules as model
use Rattle.plain_image.specs.Rules as rules
use Rattle.plain_image.proofs.OwnerFound.{is_owner_left}
use Rattle.plain_image.proofs.users.has_owner_alone.Given as goal

abbrev pub invariant-loop-user : goal.invariant-loop-user
invariant-loop-user l = rules.is_owner_alone (filter model.is_db_o l.users) ≡ is_owner_left l.found (drop l.user-index l.users)
