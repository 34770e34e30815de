use Rattle.card_run.proofs.commands.CommandCardResponder.answer_line.Goals as goal

pub returns-clause-answered : goal.returns-clause-answered
returns-clause-answered g c = rw (← c.octets_of-octets.ensures.octets) (λ m at. (c.answer_line.ensures.ended m at).answered)

pub returns-clause-failed : goal.returns-clause-failed
returns-clause-failed g c = rw (← c.octets_of-octets.ensures.octets) (λ m at. (c.answer_line.ensures.ended m at).failed)
