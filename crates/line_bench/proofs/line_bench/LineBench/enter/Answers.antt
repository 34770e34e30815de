use Rattle.std.proofs.Common.{◌≡◌, ◌+◌, length, sym, ap₂, subst, ◌∙◌, ℕ, List, [], ◌∷◌, ◌++◌, slice_range}
use Rattle.log_bench.specs.Writes.{Write}
use Rattle.line_bench.specs.Spans.{IsInTurn}
use Rattle.line_bench.specs.LineBench.{image_of, writes_of}
use Rattle.line_bench.proofs.Spans.{turn-write}
use Rattle.line_bench.proofs.Told.{paired-more}
use Rattle.line_bench.proofs.line_bench.LineBench.enter.Goals as goal

pub invariant_of-self-2 : goal.invariant_of-self-2
invariant_of-self-2 c =
    let was = c.args.self.now in
    let octets = c.args.from.now in
    let mark = length was.text.items in
    let w : Write = record { at = c.args.at; octets = octets; replaced = slice_range (image_of was) c.args.at (c.args.at + length octets) } in
    let marks : c.push_reserved.new.self.items ≡ was.marks.items ++ mark ∷ [] =
    c.push_reserved.ensures.items ∙ ap₂ (λ (marks : List ℕ) (mark : ℕ). marks ++ mark ∷ []) c.reserve.ensures.items (c.len.ensures ∙ was.text.ok.0) in
    record {
      paired = paired-more (writes_of was) _ was.marks.items _ w mark was.paired c.in_ok-write.ensures.logged.log marks;
      in_turn = subst (λ (marks : List ℕ). IsInTurn 0 marks mark) (sym marks) (turn-write 0 was.marks.items mark was.in_turn);
    }
