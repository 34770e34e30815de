use Rattle.std.proofs.Common.{length}
use Rattle.line_bench.proofs.Spans.{turn-give}
use Rattle.line_bench.proofs.Told.{longer-either}
use Rattle.line_bench.proofs.line_bench.LineBenchOutlet.give.Goals as goal

pub invariant_of-self : goal.invariant_of-self
invariant_of-self c =
    let was = c.args.self.now in
    record { paired = was.paired; in_turn = turn-give 0 was.marks.items (length was.text.items) _ (longer-either _ was.text.items _ _ c.extend_from_slice.ensures.items) was.in_turn }
