use denote.Param.Object.{read_made}
use Rattle.std.proofs.Common.{◌≡◌, Bool, lit<, lit≤, refl, sym, subst}
use Rattle.std.specs.Prelude.{IsTrue}
use Rattle.scql_model.specs.Machine.{Machine}
use Rattle.card_copy.proofs.Racked.{both-live}
use Rattle.card_copy.proofs.tests.cut_copy.OwnLists.{own-1, at-1-1, at-1-2}
use Rattle.card_copy.proofs.tests.cut_copy.Goals as goal

-- What is in each box is the card of its file.
pub insert-requires : goal.insert-requires
insert-requires c = (
  lit< tt,
  (
    (lit≤ tt, lit≤ tt),
    (
      subst IsTrue (sym (read_made own-1 (own-1.entry at-1-1) at-1-1 refl Bool (λ j card. j.1.is_live card) c.into_dyn_box.result.vtable c.into_dyn_box.result.value c.in_ok-source.source.value c.into_dyn_box.ensures.1)) c.in_ok-source.ensures.live,
      λ m at. c.in_ok-source.ensures.closed m
          (subst (λ (P : Machine → Type 0). P m) (read_made own-1 (own-1.entry at-1-1) at-1-1 refl (Machine → Type 0) (λ j card. j.1.is_at card) c.into_dyn_box.result.vtable c.into_dyn_box.result.value c.in_ok-source.source.value c.into_dyn_box.ensures.1) at),
    ),
  ),
)

pub insert-requires-2 : goal.insert-requires-2
insert-requires-2 c = (
  lit< tt,
  (
    (lit≤ tt, lit≤ tt),
    (
      subst IsTrue (sym (read_made own-1 (own-1.entry at-1-2) at-1-2 refl Bool (λ j card. j.1.is_live card) c.into_dyn_box-2.result.vtable c.into_dyn_box-2.result.value c.in_ok-dest-2.dest.value c.into_dyn_box-2.ensures.1)) c.in_ok-dest-2.ensures.live,
      λ m at. c.in_ok-dest-2.ensures.closed m
          (subst (λ (P : Machine → Type 0). P m) (read_made own-1 (own-1.entry at-1-2) at-1-2 refl (Machine → Type 0) (λ j card. j.1.is_at card) c.into_dyn_box-2.result.vtable c.into_dyn_box-2.result.value c.in_ok-dest-2.dest.value c.into_dyn_box-2.ensures.1) at),
    ),
  ),
)

pub run_copy-requires : goal.run_copy-requires
run_copy-requires c = (
  lit< tt,
  both-live _ c.new-rack.result.readers c.insert.new.self.readers c.insert-2.new.self.readers c.insert.result c.insert-2.result c.new-rack.ensures.readers
      c.insert.ensures.held c.insert.ensures.live c.insert.ensures.leaves.others c.insert-2.ensures.held c.insert-2.ensures.live c.insert-2.ensures.leaves.others,
)
