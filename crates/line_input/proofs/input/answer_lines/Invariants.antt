use Rattle.std.proofs.Common.{◌≡◌}
use Rattle.line_input.specs.Line.{line_octets}
use Rattle.line_input.proofs.Taking.{HasTaken}
use Rattle.line_input.proofs.input.answer_lines.Given as goal

abbrev pub invariant-loop-count : goal.invariant-loop-count
invariant-loop-count g l = record {
  ready : g.A.LineAnswerer.is_ready l.answerer;
  source_faults : g.S.Source.source_faults l.source ≡ g.S.Source.source_faults l.fn.source;
  taken : HasTaken g.A.LineAnswerer.answers g.A.LineAnswerer.stops l.room l.fn.answerer l.answerer (line_octets l.line) (g.S.Source.left l.fn.source) (g.S.Source.left l.source);
}

abbrev pub decreases-loop-count : goal.decreases-loop-count
decreases-loop-count g l = l.room
