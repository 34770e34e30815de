use Rattle.std.proofs.Common.{List, ℕ, subst}
use Rattle.card_c.specs.Calls.{OpensImage}
use Rattle.card_c.proofs.opening.opened.Goals as goal

pub returns : goal.returns
returns c = subst (λ (image : List ℕ). OpensImage image c.opened_over.result) c.in-Ok.ensures.items c.opened_over.ensures
