use Rattle.std.proofs.Common.{◌≡◌, ◌+◌, ◌≤◌, length}
use Rattle.std.specs.Vec.Iter.{into_iter_len}
use Rattle.rack_cli.proofs.run_over.Given as goal

-- a bench for each path
abbrev pub invariant-loop-path : goal.invariant-loop-path
invariant-loop-path l = length l.benches.items ≡ l.path-index

-- there is a reader for each bench that is left
abbrev pub invariant-loop-bench : goal.invariant-loop-bench
invariant-loop-bench l =
    (goal.iterator-loop-bench).can_next l.bench-iterator × (goal.iterator-loop-bench).is_finite l.bench-iterator × (1 ≤ l.reader) × (l.reader + into_iter_len l.bench-iterator ≤ 5)
