use Rattle.std.proofs.Common.{◌≡◌, ◌⊎◌, ◌∙◌, false, option_map, rules, sym, subst}
use Rattle.planner.specs.StatementLines.{statement_lines}
use Rattle.scql_model.specs.Lines.{line_effect}
use Rattle.card_c.specs.Calls.{GivesLine}
use Rattle.card_c.specs.HeldCard.{HeldCard, IsSeated, LacksLog, LacksText}
use Rattle.card_c.proofs.Lacking.{lacks-line}
use Rattle.card_c.proofs.Seated.{gives-line, held_with, is-there, line-said}
use Rattle.card_c.proofs.held.Held.line.Goals as goal

pub returns : goal.returns
returns c = record {
  gives = λ state seated.
      (let was : HeldCard = record { card = c.self.inside.desk.card; bench = c.self.inside.desk.bench; terminal = option_map (λ b. b.value) c.self.inside.terminal } in
      let does = line_effect statement_lines state c.args.line.now in
      let sits = subst (λ (held : HeldCard). IsSeated held state) (sym c.self.view_is) seated in
      let there = is-there (λ b. b.value) c.self.inside.terminal c.in-Some.terminal c.deref_mut.result.now c.in-Some.is c.deref_mut.ensures.value in
      let said = line-said was c.begin.new.self state c.deref_mut.result.now c.args.line.now sits there c.begin.ensures c.say.new.terminal c.say.result c.say.new.desk c.say.ensures.said in
      subst (λ (held : HeldCard). GivesLine state does held (held_with c.say.new.desk c.say.new.terminal) c.status_of.result) c.self.view_is
      (gives-line was c.begin.new.self c.say.new.desk state does c.say.new.terminal c.say.result c.status_of.result sits c.begin.ensures said c.status_of.ensures));
  cause = λ is.
      subst (λ (held : HeldCard). ((c.say.new.desk.card.live ≡ false) × LacksLog held.bench c.say.new.desk.bench) ⊎ LacksText held.bench c.say.new.desk.bench) c.self.view_is
      (lacks-line c.say.result c.self.inside.desk.bench c.begin.new.self c.say.new.desk c.begin.ensures.bench.faults c.say.ensures.ends_by (sym c.status_of.ensures ∙ is));
  mute = search rules;
  none = search rules;
  refused = search rules;
  ends = search rules;
}
