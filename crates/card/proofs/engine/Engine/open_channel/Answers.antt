-- By the number 0 the least channel that is closed is opened, and else the one that is named.
use Rattle.std.proofs.Common.{ℕ, List, sym, subst}
use Rattle.scql_model.specs.Step.{answered, channel_opened}
use Rattle.card.specs.Answering.{HoldsAnswer, replied}
use Rattle.card.proofs.engine.Engine.open_channel.Goals as goal

pub returns-then-channel-eq0 : goal.returns-then-channel-eq0
returns-then-channel-eq0 c = record {
  step = λ chip m at.
      subst (λ (number : ℕ). HoldsAnswer (answered m (channel_opened m c.args.asking.number number)) (replied c.open_least.new.reply.body c.open_least.result) c.open_least.new.self chip) (sym c.if-channel-eq0.true)
      (c.open_least.ensures.step chip m at);
  ready = c.open_least.ensures.ready;
  cells = c.open_least.ensures.cells;
}

pub returns-else-channel-eq0 : goal.returns-else-channel-eq0
returns-else-channel-eq0 c = record {
  step = λ chip m at.
      subst (λ (body : List ℕ). HoldsAnswer (answered m (channel_opened m c.args.asking.number c.args.channel.number)) (replied body c.open_named.result) c.open_named.new.self chip) (sym c.without_body.ensures)
      (c.open_named.ensures.step chip m at);
  ready = c.open_named.ensures.ready;
  cells = c.open_named.ensures.cells;
}
