-- The values so far and those of the rest are the values of the whole.
use Rattle.std.proofs.Common.{◌≡◌, ◌+◌, ◌≤◌, length, option_map}
use Rattle.std.specs.Prelude.{option_and_then}
use Rattle.scql_base.specs.Strings.{params_of}
use Rattle.scql_base.specs.Row.{narrow_count}
use Rattle.scql_base.proofs.row.count_narrow.Given as goal

abbrev pub invariant-loop-value : goal.invariant-loop-value
invariant-loop-value l = record {
  values : option_map (λ n. l.count + n) (option_and_then narrow_count (params_of l.rest)) ≡ option_and_then narrow_count (params_of l.fn.octets);
  room : l.count + length l.rest ≤ length l.fn.octets;
}

abbrev pub decreases-loop-value : goal.decreases-loop-value
decreases-loop-value l = length l.rest
