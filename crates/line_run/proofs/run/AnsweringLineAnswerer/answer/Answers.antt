-- A line that is handed on is answered as the responder answers it.
use Rattle.line_run.proofs.Ending.{told-answered, told-stopped}
use Rattle.line_run.proofs.run.AnsweringLineAnswerer.answer.Goals as goal

pub returns-clause-answered : goal.returns-clause-answered
returns-clause-answered g c =
    told-answered g.R.Responder.language g.R.Responder.is_at g.R.Responder.is_ready g.R.Responder.chip g.R.Responder.faults g.R.Responder.goes_on _ c.args.self.now.responder c.answer_line.new.self c.answer_line.result
    c.answer_line.ensures.answered c.answer_line.ensures.ready c.answer_line.ensures.causes c.answer_line.ensures.goes_on

pub returns-clause-stopped : goal.returns-clause-stopped
returns-clause-stopped g c =
    told-stopped g.R.Responder.language g.R.Responder.is_at g.R.Responder.chip g.R.Responder.faults g.R.Responder.takes_memory g.R.Responder.goes_on _ c.args.self.now.responder c.answer_line.new.self c.answer_line.result
    c.answer_line.ensures.failed c.answer_line.ensures.causes c.answer_line.ensures.memory c.answer_line.ensures.goes_on
