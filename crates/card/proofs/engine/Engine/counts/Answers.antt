-- What is counted is what the machine has committed.
use Rattle.card.proofs.Counted.{counted-at}
use Rattle.card.proofs.engine.Engine.counts.Goals as goal

pub returns : goal.returns
returns c = rw (← c.self.view_is) (λ chip m ready at. counted-at _ chip m c.count_records.result ready.stands at c.count_records.ensures)
