use Rattle.std.proofs.lemmas.Bool.{false≢true}
use Rattle.audit.proofs.auditor.AuditorAnswering.is_committed_in.Goals as goal

pub returns-in_default : goal.returns-in_default
returns-in_default c = λ m stands. (λ is. absurd (false≢true is), λ opens. absurd (c.in_ok-database.ensures.none c.in_default.is m.committed opens))
