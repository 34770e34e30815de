use Rattle.std.proofs.Common.{◌≡◌, ◌∙◌, ap, option_map, refl, rules, sym, subst}
use Rattle.eeprom.specs.Chip.{Still}
use Rattle.planner.specs.Held.{held_after_octets}
use Rattle.scql_model.specs.Replies.{Reply}
use Rattle.scql_model.specs.Step.{step}
use Rattle.terminal.specs.Holding.{Holding}
use Rattle.card_c.specs.Calls.{GivesAnswer}
use Rattle.card_c.specs.HeldCard.{AnswersInto, HeldCard, IsCardAt, IsSeated, LacksLog}
use Rattle.card_c.proofs.Begun.{at-begun}
use Rattle.card_c.proofs.Lacking.{lacks-log}
use Rattle.card_c.proofs.Seated.{gives-answer, mapped, noted}
use Rattle.card_c.proofs.held.Held.answer.Goals as goal

pub returns : goal.returns
returns c = record {
  answer = λ m at.
      (let was : HeldCard = record { card = c.self.inside.desk.card; bench = c.self.inside.desk.bench; terminal = option_map (λ b. b.value) c.self.inside.terminal } in
      let new : HeldCard = record { card = c.exchange.new.self.card; bench = c.exchange.new.self.bench; terminal = option_map (λ b. b.value) c.note.new.seat } in
      let there = subst (λ (held : HeldCard). IsCardAt held m) (sym c.self.view_is) at in
      let begun = at-begun c.self.inside.desk c.begin.new.self m c.begin.ensures there in
      let answered = c.in-Replied.ensures.step m begun refl in
      subst (λ (held : HeldCard). GivesAnswer m (step m c.args.command.now) c.write_octets.new.into c.write_octets.result held new 0) c.self.view_is
      (gives-answer m (step m c.args.command.now) c.write_octets.new.into c.write_octets.result was c.begin.new.self new 0 there c.begin.ensures (c.exchange.ensures.moments m begun)
      (λ (done : 0 ≡ 0). (subst (λ (reply : Reply). AnswersInto reply c.write_octets.result c.write_octets.new.into) answered.reply c.write_octets.ensures, answered.at))));
  terminal = λ state seated is.
      (let sits = subst (λ (held : HeldCard). IsSeated held state) (sym c.self.view_is) seated in
      let begun = at-begun c.self.inside.desk c.begin.new.self state.machine c.begin.ensures sits.sits.at in
      let answered = c.in-Replied.ensures.step state.machine begun refl in
      let command = c.args.command.now in
      let f = λ (h : Holding). (let after : Holding = record { channel = h.channel; transaction = held_after_octets command c.exchange.new.reply.word h.transaction } in after) in
      noted state sits.holding command c.exchange.new.reply.word _ sits.sits.channel sits.sits.knows (ap (λ (reply : Reply). reply.word) answered.reply) answered.at
      (c.note.ensures ∙ mapped (λ b. b.value) f c.self.inside.terminal sits.holding sits.there));
  too_short = search rules;
  mute = search rules;
  wanting = search rules;
  cause = search rules;
  refused = search rules;
  unanswered = search rules;
  ends = search rules;
}

pub returns-in_default : goal.returns-in_default
returns-in_default c = record {
  answer = λ m at.
      (let was : HeldCard = record { card = c.self.inside.desk.card; bench = c.self.inside.desk.bench; terminal = option_map (λ b. b.value) c.self.inside.terminal } in
      let new : HeldCard = record { card = c.exchange.new.self.card; bench = c.exchange.new.self.bench; terminal = option_map (λ b. b.value) c.self.inside.terminal } in
      let there = subst (λ (held : HeldCard). IsCardAt held m) (sym c.self.view_is) at in
      let begun = at-begun c.self.inside.desk c.begin.new.self m c.begin.ensures there in
      subst (λ (held : HeldCard). GivesAnswer m (step m c.args.command.now) c.args.reply.now c.args.count.now held new 3) c.self.view_is
      (gives-answer m (step m c.args.command.now) c.args.reply.now c.args.count.now was c.begin.new.self new 3 there c.begin.ensures (c.exchange.ensures.moments m begun) (λ (done : 3 ≡ 0). absurd cc)));
  terminal = search rules;
  too_short = search rules;
  mute = search rules;
  wanting = search rules;
  cause = λ is.
      subst (λ (held : HeldCard). LacksLog held.bench c.exchange.new.self.bench) c.self.view_is
      (lacks-log c.self.inside.desk.bench c.begin.new.self.bench c.exchange.new.self.bench c.begin.ensures.bench.faults (c.exchange.ensures.cause (search rules)) (ap (λ (still : Still). still.sink_faults) c.exchange.ensures.rest));
  refused = search rules;
  unanswered = search rules;
  ends = search rules;
}
