-- Line after line.
use Rattle.std.proofs.Common.{◌≡◌, ◌∷◌, [], ◌++◌, ◌+◌, ◌-◌, ℕ, List, length, take, drop, refl, ap, subst, sym, ◌∙◌, append_assoc}
use Rattle.std.proofs.lemmas.List.{take_rest}
use Rattle.std.proofs.lemmas.Result.{err_from_is_err_and}
use Rattle.line_input.specs.Answering.{Halts}
use Rattle.line_input.specs.Line.{line_octets}
use Rattle.line_input.proofs.Feeding.{Feeds-nothing, Feeds-others, Feeds-then, Halts-within, cut_at}
use Rattle.line_input.proofs.cutting.take_octets.Goals as goal

pub loop-end-init : goal.loop-end-init
loop-end-init g c = record {
  ready = c.requires.ready;
  feeds = ([], refl, Feeds-nothing g.A.LineAnswerer.answers c.args.answerer.now (line_octets c.args.line.now) (g.met.A.LineAnswerer.none c.args.answerer.now c.requires.ready));
}

pub loop-end-preserved : goal.loop-end-preserved
loop-end-preserved g c =
    let rest : List ℕ = c.loop-end.rest.now in
    let end : ℕ = c.in-Some.end in
    let line : List ℕ = take end rest ++ 10 ∷ [] in
    let behind : List ℕ = take (length rest - (end + 1)) (drop (end + 1) rest) in
    let so_far = c.loop-end.invariant.feeds in
    let cut : rest ≡ line ++ behind = cut_at rest end c.in-Some.ensures.within c.in-Some.ensures.found ∙ ap (λ (x : List ℕ). line ++ x) (sym (take_rest rest (end + 1))) in
    record {
      ready = c.in_ok-end_line.ensures.ready;
      feeds = (
        so_far.0 ++ line,
        so_far.1 ∙ (ap (λ (x : List ℕ). so_far.0 ++ x) cut ∙ sym (append_assoc so_far.0 line behind)),
        Feeds-then g.A.LineAnswerer.answers g.met.A.LineAnswerer.then so_far.0 line c.args.answerer.now c.loop-end.answerer c.end_line.new.answerer
            (line_octets c.args.line.now) (line_octets c.loop-end.line) (line_octets c.end_line.new.line) so_far.2 c.in_ok-end_line.ensures.feeds,
      );
    }

pub returns-clause-feeds : goal.returns-clause-feeds
returns-clause-feeds g c =
    let rest : List ℕ = c.loop-end.rest.now in
    let so_far = c.loop-end.invariant.feeds in
    let others = Feeds-others g.A.LineAnswerer.answers c.loop-end.answerer c.loop-end.line.octets.items rest (c.in_default.ensures.none refl) (g.met.A.LineAnswerer.none c.loop-end.answerer c.loop-end.invariant.ready) in
    rw (so_far.1, c.extend.ensures)
    (Feeds-then g.A.LineAnswerer.answers g.met.A.LineAnswerer.then so_far.0 rest c.args.answerer.now c.loop-end.answerer c.loop-end.answerer (line_octets c.args.line.now) (line_octets c.loop-end.line) _ so_far.2 others)

pub returns-in_err-end_line-clause-halts : goal.returns-in_err-end_line-clause-halts
returns-in_err-end_line-clause-halts g c =
    let rest : List ℕ = c.loop-end.rest.now in
    let end : ℕ = c.in-Some.end in
    let line : List ℕ = take end rest ++ 10 ∷ [] in
    let behind : List ℕ = drop (end + 1) rest in
    let so_far = c.loop-end.invariant.feeds in
    let split : c.args.octets.now ≡ so_far.0 ++ (line ++ behind) = so_far.1 ∙ ap (λ (x : List ℕ). so_far.0 ++ x) (cut_at rest end c.in-Some.ensures.within c.in-Some.ensures.found) in
    let is = err_from_is_err_and c.from_residual.result c.from_residual.ensures.1 in
    rw (is.1, is.2) (subst (λ (x : List ℕ). Halts g.A.LineAnswerer.answers g.A.LineAnswerer.stops x c.args.answerer.now (line_octets c.args.line.now) c.in_err-end_line.field-0.0 c.end_line.new.answerer) (sym split)
    (Halts-within g.A.LineAnswerer.answers g.met.A.LineAnswerer.then g.A.LineAnswerer.stops so_far.0 line behind c.args.answerer.now c.loop-end.answerer (line_octets c.args.line.now) (line_octets c.loop-end.line)
    c.in_err-end_line.field-0.0 c.end_line.new.answerer so_far.2 c.in_err-end_line.ensures.halts))
