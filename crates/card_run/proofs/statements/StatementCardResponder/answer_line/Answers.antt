-- What a person is told before a line is carried out, and behind it.
use Rattle.std.proofs.Common.{refl}
use Rattle.guide.proofs.Told.{told-then}
use Rattle.card_run.proofs.statements.StatementCardResponder.answer_line.Goals as goal

pub returns-in_err-refusal-clause-goes_on : goal.returns-in_err-refusal-clause-goes_on
returns-in_err-refusal-clause-goes_on g c = (c.answer_line.ensures.leaves.rest, c.tell.ensures, refl)

pub returns-clause-goes_on : goal.returns-clause-goes_on
returns-clause-goes_on g c = (c.answer_line.ensures.leaves.rest, told-then g.P.Person.lost g.P.Person.shown _ _ _ c.tell.ensures c.tell-2.ensures, refl)
