use Rattle.scql_model.proofs.ReadingIsShown.{same-replies, same-shown_after}
use Rattle.scql_model.proofs.laws.reading.equal_shown_gives_equal_replies.Goals as goal

pub returns-clause-replies : goal.returns-clause-replies
returns-clause-replies c = same-replies

pub returns-clause-after : goal.returns-clause-after
returns-clause-after c = same-shown_after
