use Rattle.std.proofs.Common.{ℕ, refl, sym, ◌∙◌, ap, subst, IsTrue}
use mathlib.Core.List.{mem-append_right}
use Rattle.card_link.specs.Link.{Holds, LeavesOpen}
use Rattle.reader_rack.proofs.boxed.BoxedLinkCardLink.reset.Goals as goal

pub reset-requires : goal.reset-requires
reset-requires g c κs = (
  refl,
  λ incl. (
    tt,
    (
      (λ a there. incl a (mem-append_right κs.0 there)),
      subst (λ (p : (x : g.dyn-1.0.I) × (g.dyn-1.0.entry x).0.Denot). IsTrue ((g.dyn-1.0.entry p.0).1.is_live p.1)) (sym c.deref_box_mut-1.ensures.value.1) c.requires,
    ),
  ),
)

pub returns-clause-step : goal.returns-clause-step
returns-clause-step g c = λ m at.
    let says = subst (λ (p : (x : g.dyn-1.0.I) × (g.dyn-1.0.entry x).0.Denot). (g.dyn-1.0.entry p.0).1.is_at p.1 m) (sym c.deref_box_mut-1.ensures.value.1) at.says in
    let there = c.reset.ensures.0 m says in
    record { says = there; over = (g.dyn-1-met _).0.valid _ _ there; opens = (g.dyn-1-met _).0.opens _ _ there }

pub returns-clause-live : goal.returns-clause-live
returns-clause-live g c =
    (c.reset.ensures.1.0.0, c.reset.ensures.1.0.1 ∙ ap (λ (p : (x : g.dyn-1.0.I) × (g.dyn-1.0.entry x).0.Denot). (g.dyn-1.0.entry p.0).1.faults p.1) c.deref_box_mut-1.ensures.value.1)

pub returns-clause-mark : goal.returns-clause-mark
returns-clause-mark g c =
    sym ((g.dyn-1-met c.deref_box_mut-1.result.now.0).0.marks c.reset.new.self)
    ∙ (c.reset.ensures.1.1.0
    ∙ ((g.dyn-1-met c.deref_box_mut-1.result.now.0).0.marks c.deref_box_mut-1.result.now.1
    ∙ ap (λ (p : (x : g.dyn-1.0.I) × (g.dyn-1.0.entry x).0.Denot). ((g.dyn-1.0.entry p.0).1.chip p.1).still.mark) c.deref_box_mut-1.ensures.value.1))

pub returns-clause-moments : goal.returns-clause-moments
returns-clause-moments g c = λ m at.
    let says = subst (λ (p : (x : g.dyn-1.0.I) × (g.dyn-1.0.entry x).0.Denot). (g.dyn-1.0.entry p.0).1.is_at p.1 m) (sym c.deref_box_mut-1.ensures.value.1) at.says in
    subst (λ (p : (x : g.dyn-1.0.I) × (g.dyn-1.0.entry x).0.Denot).
    LeavesOpen (Holds ((g.dyn-1.0.entry p.0).1.chip p.1).still.mark m.committed) ((g.dyn-1.0.entry p.0).1.chip p.1)
    ((g.dyn-1.0.entry c.deref_box_mut-1.result.now.0).1.chip c.reset.new.self))
    c.deref_box_mut-1.ensures.value.1
    (subst (λ (mark : ℕ). LeavesOpen (Holds mark m.committed) ((g.dyn-1.0.entry c.deref_box_mut-1.result.now.0).1.chip c.deref_box_mut-1.result.now.1)
    ((g.dyn-1.0.entry c.deref_box_mut-1.result.now.0).1.chip c.reset.new.self))
    ((g.dyn-1-met c.deref_box_mut-1.result.now.0).0.marks c.deref_box_mut-1.result.now.1) (c.reset.ensures.1.1.1.0 m says))
