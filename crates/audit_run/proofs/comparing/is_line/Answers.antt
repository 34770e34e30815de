-- A text is a line of octets where it begins with them, and a line feed alone follows.
use Rattle.std.proofs.Common.{◌++◌, ◌∷◌, [], Some, None, sym, ap, ◌∙◌}
use Rattle.std.specs.Str.{bytes_eq}
use Rattle.std.proofs.lemmas.Slice.Eq.{strip_prefix_is}
use Rattle.std.proofs.lemmas.Bool.Decides.{Decides-eqb}
use Rattle.audit_run.proofs.Octets.{bytes_eq-behind, bytes_eq-other}
use Rattle.audit_run.proofs.comparing.is_line.Goals as goal

pub returns-in-Some : goal.returns-in-Some
returns-in-Some c =
    c.eq.ensures ∙ (ap (bytes_eq c.in-Some.end.now) c.as_slice.ensures ∙ (sym (bytes_eq-behind c.args.octets.now c.in-Some.end.now (10 ∷ []))
    ∙ ap (λ text. bytes_eq text (c.args.octets.now ++ 10 ∷ [])) (sym (strip_prefix_is Decides-eqb c.args.text.now c.args.octets.now (Some c.in-Some.end) c.in-Some.ensures.cases))))

pub returns-in-None : goal.returns-in-None
returns-in-None c =
    sym (bytes_eq-other c.args.text.now (c.args.octets.now ++ 10 ∷ []) (strip_prefix_is Decides-eqb c.args.text.now c.args.octets.now None c.in-None.ensures.cases (10 ∷ [])))
