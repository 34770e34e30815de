-- The object of a stamp is what the record of that stamp is.
use Rattle.std.proofs.Common.{None, Some, refl}
use Rattle.card.proofs.OfKinds.{object-found}
use Rattle.card.proofs.validity.find_object_into.Goals as goal

pub returns-in-Some : goal.returns-in-Some
returns-in-Some c = object-found c.args.records.now.items c.args.stamp (Some c.in-Some.found) c.object_into.new.place c.in-Some.ensures.rises c.in-Some.ensures.found c.object_into.ensures

pub returns-in-None : goal.returns-in-None
returns-in-None c = object-found c.args.records.now.items c.args.stamp None None c.in-None.ensures.rises c.in-None.ensures.found refl
