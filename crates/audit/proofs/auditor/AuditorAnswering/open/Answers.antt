use Rattle.audit.proofs.auditor.AuditorAnswering.open.Goals as goal

pub returns-in_default-clause-none : goal.returns-in_default-clause-none
returns-in_default-clause-none c = λ is. c.in_ok-machine.ensures.none c.in_default.is
