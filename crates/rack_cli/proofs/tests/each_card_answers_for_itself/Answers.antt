use denote.Param.Object.{read_made}
use Rattle.std.proofs.Common.{◌≡◌, Bool, lit<, lit≤, refl, sym, subst}
use Rattle.std.specs.Prelude.{IsTrue}
use Rattle.scql_model.specs.Machine.{Machine}
use Rattle.rack_cli.proofs.tests.each_card_answers_for_itself.OwnLists.{own-1, at-1-1}
use Rattle.rack_cli.proofs.tests.each_card_answers_for_itself.Goals as goal

-- What is in each box is the card that was made for it.
pub insert-requires : goal.insert-requires
insert-requires g c = (
  lit< tt,
  (
    (lit≤ tt, lit≤ tt),
    (
      subst IsTrue (sym (read_made own-1 (own-1.entry at-1-1) at-1-1 refl Bool (λ j card. j.1.is_live card) c.into_dyn_box.result.vtable c.into_dyn_box.result.value c.in_ok-first.first.value c.into_dyn_box.ensures.1)) c.in_ok-first.ensures,
      λ m at. absurd (subst (λ (P : Machine → Type 0). P m) (read_made own-1 (own-1.entry at-1-1) at-1-1 refl (Machine → Type 0) (λ j card. j.1.is_at card) c.into_dyn_box.result.vtable c.into_dyn_box.result.value c.in_ok-first.first.value c.into_dyn_box.ensures.1) at),
    ),
  ),
)

pub insert-requires-2 : goal.insert-requires-2
insert-requires-2 g c = (
  lit< tt,
  (
    (lit≤ tt, lit≤ tt),
    (
      subst IsTrue (sym (read_made own-1 (own-1.entry at-1-1) at-1-1 refl Bool (λ j card. j.1.is_live card) c.into_dyn_box-2.result.vtable c.into_dyn_box-2.result.value c.in_ok-second.second.value c.into_dyn_box-2.ensures.1)) c.in_ok-second.ensures,
      λ m at. absurd (subst (λ (P : Machine → Type 0). P m) (read_made own-1 (own-1.entry at-1-1) at-1-1 refl (Machine → Type 0) (λ j card. j.1.is_at card) c.into_dyn_box-2.result.vtable c.into_dyn_box-2.result.value c.in_ok-second.second.value c.into_dyn_box-2.ensures.1) at),
    ),
  ),
)
