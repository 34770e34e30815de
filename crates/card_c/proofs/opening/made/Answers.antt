use Rattle.std.proofs.Common.{ℕ, List, subst, sym}
use Rattle.scql_model.specs.Database.{fresh}
use Rattle.scql_model.specs.Opens.{Opens}
use Rattle.card_c.proofs.opening.made.Goals as goal

pub returns-in-Ok-opened_over : goal.returns-in-Ok-opened_over
returns-in-Ok-opened_over c =
    c.in-Ok-opened_over.ensures.opened.done (fresh c.args.cells) (subst (λ (image : List ℕ). Opens image (fresh c.args.cells)) (sym c.into_image.ensures) c.in-Ok-format.ensures.fresh)
