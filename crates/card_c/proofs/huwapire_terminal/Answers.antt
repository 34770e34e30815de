use Rattle.std.proofs.Common.{Some, ap, rules, ◌∙◌}
use Rattle.card_c.proofs.Handles.{called, none-called}
use Rattle.card_c.proofs.huwapire_terminal.Goals as goal

pub returns-in-Some : goal.returns-in-Some
returns-in-Some c = called _ _ _ _ _ _ _ (ap Some c.deref_mut.ensures.value ∙ c.in-Some.ensures.was) c.put.ensures (search rules) c.sit-status.ensures

pub returns-in-None : goal.returns-in-None
returns-in-None c = none-called _ _ _ _ c.in-None.ensures.was c.in-None.ensures.none (search rules)
