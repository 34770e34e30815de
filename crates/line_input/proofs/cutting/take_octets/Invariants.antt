use Rattle.std.proofs.Common.{◌≡◌, ℕ, List, ◌++◌, length}
use Rattle.line_input.specs.Answering.{Feeds}
use Rattle.line_input.specs.Line.{line_octets}
use Rattle.line_input.proofs.cutting.take_octets.Given as goal

abbrev pub invariant-loop-end : goal.invariant-loop-end
invariant-loop-end g l = record {
  ready : g.A.LineAnswerer.is_ready l.answerer;
  feeds : (taken : List ℕ) × (l.fn.octets ≡ taken ++ l.rest) × Feeds g.A.LineAnswerer.answers taken l.fn.answerer (line_octets l.fn.line) l.answerer (line_octets l.line);
}

abbrev pub decreases-loop-end : goal.decreases-loop-end
decreases-loop-end g l = length l.rest
