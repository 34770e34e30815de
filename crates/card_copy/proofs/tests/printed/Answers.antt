use denote.Param.Object.{read_made}
use Rattle.std.proofs.Common.{◌≡◌, Bool, lit<, lit≤, refl, sym, subst}
use Rattle.std.specs.Prelude.{IsTrue}
use Rattle.scql_model.specs.Machine.{Machine}
use Rattle.card_copy.proofs.tests.printed.OwnLists.{own-1, at-1-1}
use Rattle.card_copy.proofs.tests.printed.Goals as goal

-- What is in the box is the card of the file.
pub insert-requires : goal.insert-requires
insert-requires c = (
  lit< tt,
  (
    (lit≤ tt, lit≤ tt),
    (
      subst IsTrue (sym (read_made own-1 (own-1.entry at-1-1) at-1-1 refl Bool (λ j card. j.1.is_live card) c.into_dyn_box.result.vtable c.into_dyn_box.result.value c.in_ok-card.card.value c.into_dyn_box.ensures.1)) c.in_ok-card.ensures.live,
      λ m at. c.in_ok-card.ensures.closed m
          (subst (λ (P : Machine → Type 0). P m) (read_made own-1 (own-1.entry at-1-1) at-1-1 refl (Machine → Type 0) (λ j card. j.1.is_at card) c.into_dyn_box.result.vtable c.into_dyn_box.result.value c.in_ok-card.card.value c.into_dyn_box.ensures.1) at),
    ),
  ),
)
