-- The octets go behind the line, and the line feed ends it.
use Rattle.std.proofs.Common.{◌≡◌, List, [], ◌∷◌, ℕ, Option, Some, sym, subst, ◌∙◌}
use Rattle.std.proofs.lemmas.Result.{err_from_is_err_and}
use Rattle.line_input.specs.Line.{line_octets}
use Rattle.line_input.proofs.Feeding.{Feeds-ended, Halts-ended, ended-feeds, ended-halts, empty-begun}
use Rattle.line_input.proofs.cutting.end_line.Goals as goal

pub returns-then-is_empty-clause-feeds : goal.returns-then-is_empty-clause-feeds
returns-then-is_empty-clause-feeds g c =
    let none : line_octets c.args.line.now ≡ Some [] = empty-begun c.args.line.now.octets.items (sym c.is_empty.ensures ∙ c.if-is_empty.true) in
    rw none (ended-feeds g.A.LineAnswerer.answers c.answer.result c.args.answerer.now c.answer.new.self _ [] c.args.octets.now c.requires.last c.of.ensures.taken c.answer.ensures.answered)

pub returns-then-is_empty-clause-halts : goal.returns-then-is_empty-clause-halts
returns-then-is_empty-clause-halts g c =
    let none : line_octets c.args.line.now ≡ Some [] = empty-begun c.args.line.now.octets.items (sym c.is_empty.ensures ∙ c.if-is_empty.true) in
    rw none (ended-halts g.A.LineAnswerer.answers g.A.LineAnswerer.stops c.answer.result c.args.answerer.now c.answer.new.self _ [] c.args.octets.now c.requires.last c.of.ensures.taken
    (g.met.A.LineAnswerer.none c.args.answerer.now c.requires.ready) c.answer.ensures.stopped)

pub returns-clause-feeds : goal.returns-clause-feeds
returns-clause-feeds g c =
    let is = c.taken.ensures ∙ c.extend.ensures in
    rw c.clear.ensures (Feeds-ended g.A.LineAnswerer.answers c.args.answerer.now c.answer-2.new.self c.args.line.now.octets.items c.args.octets.now c.requires.last
    (subst (λ (l : Option (List ℕ)). g.A.LineAnswerer.answers c.args.answerer.now (l ∷ []) c.answer-2.new.self) is c.in_ok-answer.ensures.answered))

pub returns-in_err-answer-clause-halts : goal.returns-in_err-answer-clause-halts
returns-in_err-answer-clause-halts g c =
    let is = c.taken.ensures ∙ c.extend.ensures in
    let err = err_from_is_err_and c.from_residual.result c.from_residual.ensures.1 in
    rw (err.1, err.2) (Halts-ended g.A.LineAnswerer.answers g.A.LineAnswerer.stops c.args.answerer.now c.args.line.now.octets.items c.args.octets.now c.in_err-answer.field-0.0 c.answer-2.new.self c.requires.last
    (g.met.A.LineAnswerer.none c.args.answerer.now c.requires.ready)
    (subst (λ (l : Option (List ℕ)). g.A.LineAnswerer.stops c.args.answerer.now l c.in_err-answer.field-0.0 c.answer-2.new.self) is c.in_err-answer.ensures.stopped))
