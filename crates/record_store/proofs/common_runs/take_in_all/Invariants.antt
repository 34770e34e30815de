use Rattle.std.proofs.Common.{◌≡◌, ℕ, ◌<◌, true, length, slice_index}
use Rattle.record_store.specs.CommonRuns.{Passes, has_common_or_none}
use Rattle.record_store.proofs.common_runs.take_in_all.Given as goal

abbrev pub invariant-loop-slot : goal.invariant-loop-slot
invariant-loop-slot l = record {
  size : length l.runs ≡ length l.fn.runs;
  common : (from passed : ℕ) → Passes l.runs from passed → passed < l.slot → has_common_or_none l.first_octets (slice_index l.firsts passed) ≡ true;
}
