-- The user of a stamp is what the record of that stamp is.
use Rattle.std.proofs.Common.{None, Some, rules}
use Rattle.card.proofs.OfKinds.{user-found}
use Rattle.card.proofs.validity.find_user.Goals as goal

pub returns-in_err-find : goal.returns-in_err-find
returns-in_err-find c = user-found c.args.records.now.items c.args.stamp None c.from_residual.result c.in_err-find.ensures.rises c.in_err-find.ensures.found (search rules)

pub returns : goal.returns
returns c = user-found c.args.records.now.items c.args.stamp (Some c.in_ok-find.field-0) c.user.result c.in_ok-find.ensures.rises c.in_ok-find.ensures.found c.user.ensures
