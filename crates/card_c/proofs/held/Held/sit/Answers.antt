use Rattle.std.proofs.Common.{rules, sym, subst}
use Rattle.card_c.specs.HeldCard.{HeldCard, IsCardAt}
use Rattle.card_c.proofs.Begun.{at-begun}
use Rattle.card_c.proofs.Seated.{anew}
use Rattle.card_c.proofs.held.Held.sit.Goals as goal

pub returns : goal.returns
returns c = record {
  done = λ m at is. anew m _ (c.reset.ensures.step m (at-begun c.self.inside.desk c.begin_in.new.self m c.begin_in.ensures (subst (λ (held : HeldCard). IsCardAt held m) (sym c.self.view_is) at))) (search rules);
  room = search rules;
  image = search rules;
  mute = search rules;
  refused = search rules;
  ends = search rules;
}
