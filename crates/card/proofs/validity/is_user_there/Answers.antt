-- There is one where one is found.
use Rattle.std.proofs.Common.{◌==◌}
use Rattle.scql_base.specs.declared.records.User.{User}
use Rattle.card.specs.KeptRecords.{users_in}
use Rattle.card.proofs.OfKinds.{is_there}
use Rattle.card.proofs.validity.is_user_there.Goals as goal

pub returns : goal.returns
returns c = is_there (λ (u : User). u.stamp == c.args.stamp) (users_in c.args.records.now.items) c.find_user.result c.is_some.result c.find_user.ensures c.is_some.ensures
