use Rattle.std.proofs.Common.{◌∙◌, None, rules, sym, subst}
use Rattle.terminal.specs.Holding.{Holding}
use Rattle.card_c.specs.HeldCard.{HeldCard, IsCardAt, IsSeated}
use Rattle.card_c.proofs.Begun.{at-begun}
use Rattle.card_c.proofs.Seated.{anew, mapped}
use Rattle.card_c.proofs.held.Held.reset.Goals as goal

pub returns : goal.returns
returns c = record {
  done = λ m at is. c.reset.ensures.step m (at-begun c.self.inside.desk c.begin.new.self m c.begin.ensures (subst (λ (held : HeldCard). IsCardAt held m) (sym c.self.view_is) at));
  terminal = λ state seated is.
      (let sits = subst (λ (held : HeldCard). IsSeated held state) (sym c.self.view_is) seated in
      let first : Holding = record { channel = 0; transaction = None } in
      anew state.machine _ (c.reset.ensures.step state.machine (at-begun c.self.inside.desk c.begin.new.self state.machine c.begin.ensures sits.sits.at))
      (c.begin_anew.ensures ∙ mapped (λ b. b.value) (λ _. first) c.self.inside.terminal sits.holding sits.there));
  image = search rules;
  mute = search rules;
  refused = search rules;
  ends = search rules;
}
