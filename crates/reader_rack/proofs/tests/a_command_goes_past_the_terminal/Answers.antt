use Rattle.std.proofs.Common.{◌≡◌, None, lit<, lit≤, refl, IsTrue, inl, inr}
use Rattle.reader_rack.proofs.tests.a_command_goes_past_the_terminal.OwnLists.{own-1}
use Rattle.reader_rack.proofs.tests.a_command_goes_past_the_terminal.Goals as goal

-- The box holds a link of the one kind that is boxed here.
pub insert-requires : goal.insert-requires
insert-requires g c = (
  lit< tt,
  (
    (lit≤ tt, lit≤ tt),
    (
      elim c.into_dyn_box.result.vtable as (λ v. (x : _) → IsTrue ((own-1.entry v).1.is_live x)) [ inl u ↦ λ x. refl | inr e ↦ absurd e ] c.into_dyn_box.result.value,
      λ m. elim c.into_dyn_box.result.vtable as (λ v. (x : _) → (own-1.entry v).1.is_at x m → m.transaction ≡ None) [ inl u ↦ λ x at. absurd at | inr e ↦ absurd e ] c.into_dyn_box.result.value,
    ),
  ),
)
