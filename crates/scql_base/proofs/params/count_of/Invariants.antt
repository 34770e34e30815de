-- The strings so far and those of the rest are the strings of the whole.
use Rattle.std.proofs.Common.{◌≡◌, ◌+◌, ◌≤◌, length, option_map}
use Rattle.scql_base.specs.Strings.{params_of}
use Rattle.scql_base.proofs.params.count_of.Given as goal

abbrev pub invariant-loop-after : goal.invariant-loop-after
invariant-loop-after l = record {
  strings : option_map (λ strings. l.count + length strings) (params_of l.rest) ≡ option_map length (params_of l.fn.octets);
  room : l.count + length l.rest ≤ length l.fn.octets;
}

abbrev pub decreases-loop-after : goal.decreases-loop-after
decreases-loop-after l = length l.rest
