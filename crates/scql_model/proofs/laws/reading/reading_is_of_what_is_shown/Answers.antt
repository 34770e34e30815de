use Rattle.scql_model.proofs.ReadingIsShown.{reply-move_of, shown-move_of}
use Rattle.scql_model.proofs.laws.reading.reading_is_of_what_is_shown.Goals as goal

pub returns-clause-reply : goal.returns-clause-reply
returns-clause-reply c = reply-move_of

pub returns-clause-after : goal.returns-clause-after
returns-clause-after c = shown-move_of
