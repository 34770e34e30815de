use Rattle.std.proofs.Common.{length, sym, ◌∙◌, ap}
use Rattle.script.specs.Reading.{left_of}
use Rattle.script.proofs.Cutting.{left_of-tokens}
use Rattle.script.proofs.tokens.Tokens.left.Goals as goal

pub returns : goal.returns
returns c = ap length c.after_blanks.ensures ∙ (sym (left_of-tokens c.self.inside.rest.now) ∙ ap left_of c.self.view_is)
