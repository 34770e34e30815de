use Rattle.std.proofs.Common.{◌≡◌, ◌≤◌, true, ◌+◌, length}
use Rattle.scql_model.specs.Lines.{lines}
use Rattle.audit_run.specs.Transcript.{malformed, malformed_from}
use Rattle.audit_run.proofs.transcript.first_malformed.Given as goal

-- what is left to be looked at
abbrev pub invariant-loop-line : goal.invariant-loop-line
invariant-loop-line l = record {
  left : malformed l.fn.transcript ≡ malformed_from l.number l.behind_input (lines l.rest true);
  few : l.number + length l.rest ≤ 1 + length l.fn.transcript;
}

abbrev pub decreases-loop-line : goal.decreases-loop-line
decreases-loop-line l = length l.rest
