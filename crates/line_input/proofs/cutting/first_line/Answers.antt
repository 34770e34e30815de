-- Where a line feed is found it ends the first line, and else that is all there is.
use Rattle.std.proofs.Common.{ℕ, ◌+◌, true, List, ◌∷◌, [], take, drop, refl, sym, ap, ◌∙◌, append_assoc}
use Rattle.std.proofs.lemmas.List.{take_rest}
use Rattle.scql_model.specs.Lines.{lines}
use Rattle.line_input.proofs.CutLines.{lines-first, lines-last}
use Rattle.line_input.proofs.Feeding.{cut_at}
use Rattle.line_input.proofs.cutting.first_line.Goals as goal

pub returns-in-Some-clause-line : goal.returns-in-Some-clause-line
returns-in-Some-clause-line c =
    let octets = c.args.octets.now in
    let end = c.in-Some.end in
    ap (λ (all : List ℕ). lines all true) (cut_at octets end c.in-Some.ensures.within c.in-Some.ensures.found ∙ append_assoc (take end octets) (10 ∷ []) (drop (end + 1) octets))
    ∙ (lines-first (take end octets) (drop (end + 1) octets) c.in-Some.ensures.before
    ∙ ap (λ (rest : List ℕ). take end octets ∷ lines rest true) (sym (take_rest octets (end + 1))))

pub returns-in-None-clause-line : goal.returns-in-None-clause-line
returns-in-None-clause-line c = lines-last c.args.octets.now (c.in-None.ensures.none refl) (sym c.if-is_empty.ensures)
