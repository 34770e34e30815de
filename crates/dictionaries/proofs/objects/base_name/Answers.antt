-- A view's base has the name of its object.
use Rattle.dictionaries.proofs.objects.base_name.Goals as goal

pub returns-in-View-clause-name : goal.returns-in-View-clause-name
returns-in-View-clause-name g c = λ db held. rw c.in-View.is (c.object_name.ensures.name db held)
