use Rattle.std.proofs.Common.{◌≡◌, ◌≤◌, true, ◌+◌, length}
use Rattle.scql_model.specs.Lines.{lines}
use Rattle.audit_run.specs.Transcript.{exchanges, exchanges_from}
use Rattle.audit_run.proofs.transcript.count_inputs.Given as goal

-- what is counted, and what is left to be counted; no more is counted than octets have gone by
abbrev pub invariant-loop-line : goal.invariant-loop-line
invariant-loop-line l = record {
  left : l.count + length (exchanges_from 1 (lines l.rest true)) ≡ length (exchanges l.fn.transcript);
  few : l.count + length l.rest ≤ length l.fn.transcript;
}

abbrev pub decreases-loop-line : goal.decreases-loop-line
decreases-loop-line l = length l.rest
