use Rattle.scql_model.specs.Shown.{shown}
use Rattle.scql_model.proofs.FoundAgain.{find-objects_shown}
use Rattle.scql_model.proofs.NameOrder.{IsSorted-objects_shown}
use Rattle.scql_model.proofs.laws.reading.objects_are_shown_by_their_names.Goals as goal

pub returns-clause-sorted : goal.returns-clause-sorted
unfolding shown
returns-clause-sorted c = λ db actor reading. IsSorted-objects_shown db actor

pub returns-clause-seen : goal.returns-clause-seen
unfolding shown
returns-clause-seen c = λ db actor reading name. find-objects_shown db actor name
