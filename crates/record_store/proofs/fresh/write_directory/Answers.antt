use Rattle.std.proofs.Common.{ℕ, ◌*◌, ◌+◌, ◌-◌, ◌≤◌, replicate, take, drop, arith, rules}
use Rattle.std.proofs.lemmas.List.{length-replicate}
use Rattle.eeprom.specs.Chip.{Keeps}
use Rattle.record_store.specs.Appends.{end_of}
use Rattle.record_store.proofs.Appending.{Appends-then, Appends-last}
use Rattle.record_store.proofs.Fronts.{Keeps-then}
use Rattle.record_store.proofs.fresh.write_directory.Goals.{After-fill}
use Rattle.record_store.proofs.fresh.write_directory.Goals as goal

pub returns-in_err-append : goal.returns-in_err-append
returns-in_err-append g c = record {
  appends = search rules;
  behind = search rules;
  front = c.append.ensures.front;
  after = λ limit inside. c.append.ensures.after limit (omega (arith, inside));
  cause = search rules;
}

filled : (g : _) (c : After-fill g) (limit : ℕ) → end_of c.args.writer.now + (6 * c.args.cells + 2) ≤ limit → Keeps (drop limit) (g.B.Eeprom.chip c.args.bench.now) (g.B.Eeprom.chip c.fill.new.bench)
filled g c limit inside =
    Keeps-then (drop limit) _ _ _ (c.append.ensures.after limit (omega (arith, inside))) (c.fill.ensures.after limit (omega (arith, inside, c.in_ok-append.ensures.appends.end)))

pub returns-in_err-fill : goal.returns-in_err-fill
returns-in_err-fill g c = record {
  appends = search rules;
  behind = search rules;
  front = Keeps-then (take 4) _ _ _ c.append.ensures.front c.fill.ensures.front;
  after = λ limit inside. filled g (goal.at.returns-in_err-fill g c).After-fill limit inside;
  cause = search rules;
}

pub returns : goal.returns
returns g c = record {
  appends =
      Appends-last c.fill-2.result (replicate (4 * c.args.cells + 2) 0) c.fill-2.new.self (g.B.Eeprom.chip c.fill-2.new.bench)
      (Appends-then c.in_ok-append.ensures.appends c.in_ok-fill.ensures.appends) c.fill-2.ensures.appends;
  behind = search rules;
  front = Keeps-then (take 4) _ _ _ c.append.ensures.front (Keeps-then (take 4) _ _ _ c.fill.ensures.front c.fill-2.ensures.front);
  after = λ limit inside.
      Keeps-then (drop limit) _ _ _ (filled g (goal.at.returns g c).After-fill limit inside)
      (c.fill-2.ensures.after limit (omega (arith, inside, c.in_ok-append.ensures.appends.end, c.in_ok-fill.ensures.appends.end, length-replicate {A = ℕ} (2 * c.args.cells - 4) 255)));
  cause = search rules;
}
