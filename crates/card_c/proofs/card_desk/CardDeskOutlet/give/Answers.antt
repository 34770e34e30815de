use Rattle.std.proofs.Common.{Some, ap, length}
use Rattle.card.specs.CardLaws.{IsReady-given}
use Rattle.line_bench.specs.LineBench.{chip_of}
use Rattle.log_bench.specs.LogBench.{image_of}
use Rattle.log_bench.specs.declared.log_bench.LogBench.{LogBench}
use Rattle.card_c.proofs.card_desk.CardDeskOutlet.give.Goals as goal

pub invariant_of-self : goal.invariant_of-self
invariant_of-self c = λ live.
    IsReady-given c.self.inside.card (chip_of c.self.inside.bench) (chip_of c.give.new.self) (ap (λ (log : LogBench). Some (image_of log)) c.give.ensures.rest.log) (ap (λ (log : LogBench). length (image_of log)) c.give.ensures.rest.log) (c.self.invariant live)

pub returns-clause-err : goal.returns-clause-err
returns-clause-err c = rw (← c.self.view_is) c.give.ensures.err
