-- There is one where one is found.
use Rattle.std.proofs.Common.{◌==◌}
use Rattle.scql_base.specs.declared.records.Object.{Object}
use Rattle.card.specs.KeptRecords.{objects_in}
use Rattle.card.proofs.OfKinds.{is_there}
use Rattle.card.proofs.validity.is_object_there.Goals as goal

pub returns : goal.returns
returns c = is_there (λ (o : Object). o.stamp == c.args.stamp) (objects_in c.args.records.now.items) c.find_object_into.new.place c.is_some.result c.find_object_into.ensures c.is_some.ensures
