use Rattle.std.proofs.Common.{ℕ, ◌+◌, ◌≤◌, take, drop, rules, arith}
use Rattle.std.proofs.lemmas.List.{length-replicate}
use Rattle.eeprom.specs.Chip.{Keeps}
use Rattle.record_store.specs.Appends.{end_of}
use Rattle.record_store.proofs.Appending.{Appends-again}
use Rattle.record_store.proofs.Fronts.{Keeps-then}
use Rattle.record_store.proofs.writer.Writer.fill.Goals.{After-push}
use Rattle.record_store.proofs.writer.Writer.fill.Goals as goal

-- behind the last octet, also where a push failed
pushed : (g : _) (c : After-push g) (limit : ℕ) → end_of c.args.self.now + c.args.count ≤ limit → Keeps (drop limit) (g.B.Eeprom.chip c.args.bench.now) (g.B.Eeprom.chip c.push.new.bench)
pushed g c limit inside =
    Keeps-then (drop limit) (g.B.Eeprom.chip c.args.bench.now) (g.B.Eeprom.chip c.loop-step.bench) (g.B.Eeprom.chip c.push.new.bench) (c.loop-step.invariant.after limit inside) (c.push.ensures.after limit (omega (arith, inside, c.loop-step.invariant.appends.end, length-replicate c.loop-step._step c.args.octet)))

pub returns-in_err-push : goal.returns-in_err-push
returns-in_err-push g c = record {
  appends = search rules;
  behind = search rules;
  front = Keeps-then (take 4) (g.B.Eeprom.chip c.args.bench.now) (g.B.Eeprom.chip c.loop-step.bench) (g.B.Eeprom.chip c.push.new.bench) c.loop-step.invariant.front c.push.ensures.front;
  after = λ limit inside. pushed g (goal.at.returns-in_err-push g c).After-push limit inside;
  cause = search rules;
}

pub loop-step-preserved : goal.loop-step-preserved
loop-step-preserved g c = record {
  appends = Appends-again _ _ c.loop-step.invariant.appends c.in_ok-push.ensures.appends;
  behind = search rules;
  front = Keeps-then (take 4) (g.B.Eeprom.chip c.args.bench.now) (g.B.Eeprom.chip c.loop-step.bench) (g.B.Eeprom.chip c.push.new.bench) c.loop-step.invariant.front c.in_ok-push.ensures.front;
  after = λ limit inside. pushed g (goal.at.loop-step-preserved g c).After-push limit inside;
  faults = search rules;
}
