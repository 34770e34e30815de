use Rattle.std.proofs.Common.{refl, sym, subst, ◌<◌, []}
use Rattle.std.specs.Prelude.{IsSome}
use Rattle.eeprom.specs.StoreOf.{image_size}
use Rattle.card_run.specs.Behind.{run_cells}
use Rattle.card_run.specs.Words.{form_in}
use Rattle.ram_card.proofs.Ending.{OfSome, of_some, are_words, ends_so}
use Rattle.ram_card.proofs.run_in_memory.Goals as goal

-- By the clauses of the run of a new card of 64 cells no other end is left.
pub returns-clause-ends : goal.returns-clause-ends
returns-clause-ends c = (
    let are = are_words _ _ c.in_ok-from_str.ensures.ok c.in_ok-from_str-2.ensures.ok in
    ends_so c.run_card.result _ _ _ _ are refl refl refl refl (λ is. let few = c.run_card.ensures.too_small.0 is in subst (OfSome (λ form. 4514 < image_size (run_cells form []))) (sym few.1) few.2)
    c.run_card.ensures.not_a_card (of_some _ _ (subst (λ words. IsSome (form_in words)) (sym are) refl) (λ form asked. (c.run_card.ensures.forms form asked).statuses)) c.run_card.ensures.ends
    )
