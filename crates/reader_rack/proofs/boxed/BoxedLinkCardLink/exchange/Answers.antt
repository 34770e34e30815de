use Rattle.std.proofs.Common.{ℕ, ◌∷◌, ◌≤◌, refl, sym, ◌∙◌, ap, subst, IsTrue}
use mathlib.Core.List.{mem-append_right}
use Rattle.eeprom.specs.Fault.{Rose}
use Rattle.scql_model.specs.Step.{step}
use Rattle.card_link.specs.Link.{IsOneOf, LeavesOpen}
use Rattle.reader_rack.proofs.boxed.BoxedLinkCardLink.exchange.Goals as goal

pub exchange-requires : goal.exchange-requires
exchange-requires g c κs = (
  refl,
  λ incl. (
    tt,
    (
      (λ a there. incl a (mem-append_right κs.0 there)),
      subst (λ (p : (x : g.dyn-1.0.I) × (g.dyn-1.0.entry x).0.Denot). IsTrue ((g.dyn-1.0.entry p.0).1.is_live p.1)) (sym c.deref_box_mut-1.ensures.value.1) c.requires,
    ),
  ),
)

pub returns-clause-step : goal.returns-clause-step
returns-clause-step g c = λ m at replied.
    let says = subst (λ (p : (x : g.dyn-1.0.I) × (g.dyn-1.0.entry x).0.Denot). (g.dyn-1.0.entry p.0).1.is_at p.1 m) (sym c.deref_box_mut-1.ensures.value.1) at.says in
    let answered = c.exchange.ensures.0 m says replied in
    record { reply = answered.reply; at = record { says = answered.at; over = (g.dyn-1-met _).0.valid _ _ answered.at; opens = (g.dyn-1-met _).0.opens _ _ answered.at } }

pub returns-clause-replied : goal.returns-clause-replied
returns-clause-replied g c = λ replied. (
  (c.exchange.ensures.1.0 replied).0,
  (c.exchange.ensures.1.0 replied).1 ∙ ap (λ (p : (x : g.dyn-1.0.I) × (g.dyn-1.0.entry x).0.Denot). (g.dyn-1.0.entry p.0).1.faults p.1) c.deref_box_mut-1.ensures.value.1,
)

pub returns-clause-cause : goal.returns-clause-cause
returns-clause-cause g c = λ mute.
    subst (λ (p : (x : g.dyn-1.0.I) × (g.dyn-1.0.entry x).0.Denot). Rose ((g.dyn-1.0.entry p.0).1.faults p.1) ((g.dyn-1.0.entry c.deref_box_mut-1.result.now.0).1.faults c.exchange.new.self))
    c.deref_box_mut-1.ensures.value.1 (c.exchange.ensures.1.1.1.0 mute)

pub returns-clause-never_falls : goal.returns-clause-never_falls
returns-clause-never_falls g c =
    subst (λ (p : (x : g.dyn-1.0.I) × (g.dyn-1.0.entry x).0.Denot). (g.dyn-1.0.entry p.0).1.faults p.1 ≤ (g.dyn-1.0.entry c.deref_box_mut-1.result.now.0).1.faults c.exchange.new.self)
    c.deref_box_mut-1.ensures.value.1 c.exchange.ensures.1.1.1.1.0

pub returns-clause-mark : goal.returns-clause-mark
returns-clause-mark g c =
    sym ((g.dyn-1-met c.deref_box_mut-1.result.now.0).0.marks c.exchange.new.self)
    ∙ (c.exchange.ensures.1.1.1.1.1.0
    ∙ ((g.dyn-1-met c.deref_box_mut-1.result.now.0).0.marks c.deref_box_mut-1.result.now.1
    ∙ ap (λ (p : (x : g.dyn-1.0.I) × (g.dyn-1.0.entry x).0.Denot). ((g.dyn-1.0.entry p.0).1.chip p.1).still.mark) c.deref_box_mut-1.ensures.value.1))

pub returns-clause-moments : goal.returns-clause-moments
returns-clause-moments g c = λ m at.
    let says = subst (λ (p : (x : g.dyn-1.0.I) × (g.dyn-1.0.entry x).0.Denot). (g.dyn-1.0.entry p.0).1.is_at p.1 m) (sym c.deref_box_mut-1.ensures.value.1) at.says in
    subst (λ (p : (x : g.dyn-1.0.I) × (g.dyn-1.0.entry x).0.Denot).
    LeavesOpen (IsOneOf ((g.dyn-1.0.entry p.0).1.chip p.1).still.mark (m.committed ∷ (step m c.args.command.now).commits)) ((g.dyn-1.0.entry p.0).1.chip p.1)
    ((g.dyn-1.0.entry c.deref_box_mut-1.result.now.0).1.chip c.exchange.new.self))
    c.deref_box_mut-1.ensures.value.1
    (subst (λ (mark : ℕ). LeavesOpen (IsOneOf mark (m.committed ∷ (step m c.args.command.now).commits)) ((g.dyn-1.0.entry c.deref_box_mut-1.result.now.0).1.chip c.deref_box_mut-1.result.now.1)
    ((g.dyn-1.0.entry c.deref_box_mut-1.result.now.0).1.chip c.exchange.new.self))
    ((g.dyn-1-met c.deref_box_mut-1.result.now.0).0.marks c.deref_box_mut-1.result.now.1) (c.exchange.ensures.1.1.1.1.1.1.0 m says))
