-- What is told of the lines that were handed on is what the run owes.
use Rattle.line_run.proofs.Ending.{read-runs}
use Rattle.line_run.proofs.run.run_lines.Goals as goal

pub returns-clause-runs : goal.returns-clause-runs
returns-clause-runs g c = λ state is.
    read-runs (λ a. a.responder) g.R.Responder.language g.met.R.Responder.lawful g.R.Responder.is_at g.R.Responder.is_ready g.R.Responder.chip g.R.Responder.faults g.R.Responder.takes_memory g.R.Responder.goes_on c.answer_lines-end.result
    _ c.answer_lines-end.new.answerer (g.S.Source.left c.args.source.now) (g.S.Source.left c.answer_lines-end.new.source) g.met.R.Responder.over c.answer_lines-end.ensures.read state is
