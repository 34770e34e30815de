use Rattle.std.proofs.Common.{Some, ap, rules, ◌∙◌}
use Rattle.card_c.proofs.Handles.{looked-at, none-looked-at}
use Rattle.card_c.proofs.huwapire_image.Goals as goal

pub returns-in-Some : goal.returns-in-Some
returns-in-Some c = looked-at _ _ _ _ _ _ (ap Some c.deref.ensures ∙ c.in-Some.ensures.was) (search rules) (search rules) c.copy_image-status.ensures

pub returns-in-None : goal.returns-in-None
returns-in-None c = none-looked-at _ _ _ _ c.in-None.ensures.was c.in-None.ensures.none (search rules)
