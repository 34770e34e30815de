use Rattle.std.proofs.Common.{◌==◌, length, sym, ◌∙◌, ap}
use Rattle.script.specs.Reading.{is_end}
use Rattle.script.proofs.Cutting.{is_end-tokens}
use Rattle.script.proofs.tokens.Tokens.is_at_end.Goals as goal

pub returns : goal.returns
returns c =
    c.is_empty.ensures ∙ (ap (λ line. length line == 0) c.after_blanks.ensures ∙ (sym (is_end-tokens c.self.inside.rest.now) ∙ ap is_end c.self.view_is))
