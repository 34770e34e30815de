use Rattle.std.proofs.Common.{ℕ, ◌+◌, ◌-◌, ◌≤◌, length, replicate, take, drop, arith, rules}
use Rattle.eeprom.specs.Chip.{Keeps}
use Rattle.record_store.specs.Appends.{end_of}
use Rattle.record_store.proofs.Appending.{Appends-then, Appends-last}
use Rattle.record_store.proofs.Fronts.{Keeps-then}
use Rattle.record_store.proofs.fresh.write_cell.Goals.{After-append-2}
use Rattle.record_store.proofs.fresh.write_cell.Goals as goal

pub returns-in_err-append : goal.returns-in_err-append
returns-in_err-append g c = record {
  appends = search rules;
  behind = search rules;
  front = c.append.ensures.front;
  after = λ limit inside. c.append.ensures.after limit (omega (arith, inside));
  cause = search rules;
}

appended : (g : _) (c : After-append-2 g) (limit : ℕ) → end_of c.args.writer.now + 32 ≤ limit → Keeps (drop limit) (g.B.Eeprom.chip c.args.bench.now) (g.B.Eeprom.chip c.append-2.new.bench)
appended g c limit inside =
    Keeps-then (drop limit) _ _ _ (c.append.ensures.after limit (omega (arith, inside))) (c.append-2.ensures.after limit (omega (arith, inside, c.requires.short, c.in_ok-append.ensures.appends.end)))

pub returns-in_err-append-2 : goal.returns-in_err-append-2
returns-in_err-append-2 g c = record {
  appends = search rules;
  behind = search rules;
  front = Keeps-then (take 4) _ _ _ c.append.ensures.front c.append-2.ensures.front;
  after = λ limit inside. appended g (goal.at.returns-in_err-append-2 g c).After-append-2 limit inside;
  cause = search rules;
}

pub returns : goal.returns
returns g c = record {
  appends =
      Appends-last c.fill.result (replicate (28 - length c.args.octets.now) 0) c.fill.new.self (g.B.Eeprom.chip c.fill.new.bench)
      (Appends-then c.in_ok-append.ensures.appends c.in_ok-append-2.ensures.appends) c.fill.ensures.appends;
  behind = search rules;
  front = Keeps-then (take 4) _ _ _ c.append.ensures.front (Keeps-then (take 4) _ _ _ c.append-2.ensures.front c.fill.ensures.front);
  after = λ limit inside.
      Keeps-then (drop limit) _ _ _ (appended g (goal.at.returns g c).After-append-2 limit inside)
      (c.fill.ensures.after limit (omega (arith, inside, c.requires.short, c.in_ok-append.ensures.appends.end, c.in_ok-append-2.ensures.appends.end)));
  cause = search rules;
}
