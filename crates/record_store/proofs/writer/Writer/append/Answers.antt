use Rattle.std.proofs.Common.{ℕ, ◌+◌, ◌≤◌, length, take, drop, rules, arith, length-take-le}
use Rattle.eeprom.specs.Chip.{Keeps}
use Rattle.record_store.specs.Appends.{end_of}
use Rattle.record_store.proofs.Appending.{Appends-more}
use Rattle.record_store.proofs.Fronts.{Keeps-then}
use Rattle.record_store.proofs.writer.Writer.append.Goals.{After-push}
use Rattle.record_store.proofs.writer.Writer.append.Goals as goal

-- behind the last octet, also where a push failed
pushed : (g : _) (c : After-push g) (limit : ℕ) → end_of c.args.self.now + length c.args.octets.now ≤ limit → Keeps (drop limit) (g.B.Eeprom.chip c.args.bench.now) (g.B.Eeprom.chip c.push.new.bench)
pushed g c limit inside =
    Keeps-then (drop limit) (g.B.Eeprom.chip c.args.bench.now) (g.B.Eeprom.chip c.loop-octet.bench) (g.B.Eeprom.chip c.push.new.bench) (c.loop-octet.invariant.after limit inside) (c.push.ensures.after limit (omega (arith, inside, c.loop-octet.invariant.appends.end, c.loop-octet-test.true, length-take-le c.loop-octet.octet-index c.args.octets.now)))

pub returns-in_err-push : goal.returns-in_err-push
returns-in_err-push g c = record {
  appends = search rules;
  behind = search rules;
  front = Keeps-then (take 4) (g.B.Eeprom.chip c.args.bench.now) (g.B.Eeprom.chip c.loop-octet.bench) (g.B.Eeprom.chip c.push.new.bench) c.loop-octet.invariant.front c.push.ensures.front;
  after = λ limit inside. pushed g (goal.at.returns-in_err-push g c).After-push limit inside;
  cause = search rules;
}

pub loop-octet-preserved : goal.loop-octet-preserved
loop-octet-preserved g c = record {
  appends = Appends-more _ _ c.loop-octet-test.true c.loop-octet.invariant.appends c.in_ok-push.ensures.appends;
  behind = search rules;
  front = Keeps-then (take 4) (g.B.Eeprom.chip c.args.bench.now) (g.B.Eeprom.chip c.loop-octet.bench) (g.B.Eeprom.chip c.push.new.bench) c.loop-octet.invariant.front c.in_ok-push.ensures.front;
  after = λ limit inside. pushed g (goal.at.loop-octet-preserved g c).After-push limit inside;
  faults = search rules;
}
