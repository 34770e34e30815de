use Rattle.std.proofs.Common.{◌≡◌, ◌≤◌, true, suc, ◌+◌, length}
use Rattle.person.specs.Showing.{Shows}
use Rattle.scql_model.specs.Lines.{lines}
use Rattle.scql_model.specs.Machine.{Machine}
use Rattle.audit_run.specs.Progress.{lines_shown}
use Rattle.audit_run.specs.Transcript.{exchanges, exchanges_from}
use Rattle.audit_run.specs.Verdicts.{agreement}
use Rattle.audit_run.proofs.comparing.first_difference.Given as goal

-- where the machine is then, and that the rest decides
abbrev pub invariant-loop-line : goal.invariant-loop-line
invariant-loop-line g l = record {
  left : (m : Machine) → g.A.Answering.stands_for l.fn.machine m
      → (now : Machine) × g.A.Answering.stands_for l.machine now × (agreement m (exchanges l.fn.transcript) ≡ agreement now (exchanges_from (suc l.passed) (lines l.rest true)));
  few : l.passed + length l.rest ≤ length l.fn.transcript;
  lines : l.passed + length (lines l.rest true) ≡ length (lines l.fn.transcript true);
  shown : Shows g.P.Person.lost g.P.Person.shown (lines_shown l.passed) l.fn.person l.person;
}

abbrev pub decreases-loop-line : goal.decreases-loop-line
decreases-loop-line g l = length l.rest
