use Rattle.std.proofs.Common.{sym, ◌∙◌, ap}
use Rattle.script.specs.Reading.{behind, octets_of}
use Rattle.script.proofs.Cutting.{behind-tokens, octets_of-tokens}
use Rattle.script.proofs.Within.{token_len-within}
use Rattle.script.proofs.tokens.Tokens.cut.Goals as goal

pub split_at-requires : goal.split_at-requires
split_at-requires c = rw c.token_len.ensures (token_len-within c.after_blanks-line.result.now)

pub returns-clause-token : goal.returns-clause-token
returns-clause-token c = rw (c.split_at.ensures.front, c.token_len.ensures, c.after_blanks-line.ensures) (sym (octets_of-tokens c.self.inside.rest.now) ∙ ap octets_of c.self.view_is)

pub returns-clause-rest : goal.returns-clause-rest
returns-clause-rest c = rw (c.split_at.ensures.back, c.token_len.ensures, c.after_blanks-line.ensures) (sym (behind-tokens c.self.inside.rest.now) ∙ ap behind c.self.view_is)
