use Rattle.std.proofs.Common.{◌≡◌, ◌++◌, ◌+◌, ℕ, List, length}
use Rattle.eeprom.specs.Chip.{Becomes}
use Rattle.audit_run.proofs.reading.read_all.Given as goal

-- what was taken so far, and how many octets may still come
abbrev pub invariant-loop-count : goal.invariant-loop-count
invariant-loop-count g l = record {
  faults : g.S.Source.source_faults l.source ≡ g.S.Source.source_faults l.fn.source;
  taken : Becomes (λ (input left : List ℕ). input ≡ l.octets.items ++ left) (g.S.Source.left l.fn.source) (g.S.Source.left l.source);
  count : length l.octets.items + l.room ≡ l.fn.most;
}

abbrev pub decreases-loop-count : goal.decreases-loop-count
decreases-loop-count g l = l.room
