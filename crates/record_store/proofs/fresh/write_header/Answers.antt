use Rattle.std.proofs.Common.{replicate, take, drop, arith, rules}
use Rattle.record_store.proofs.Appending.{Appends-last}
use Rattle.record_store.proofs.Fronts.{Keeps-then}
use Rattle.record_store.proofs.fresh.write_header.Goals as goal

pub returns-in_err-append : goal.returns-in_err-append
returns-in_err-append g c = record {
  appends = search rules;
  behind = search rules;
  front = c.append.ensures.front;
  after = λ limit inside. c.append.ensures.after limit (omega (arith, inside));
  cause = search rules;
}

pub returns : goal.returns
returns g c = record {
  appends = Appends-last c.fill.result (replicate 24 0) c.fill.new.self (g.B.Eeprom.chip c.fill.new.bench) (rw c.octets_of.ensures.octets at c.in_ok-append.ensures.appends) c.fill.ensures.appends;
  behind = search rules;
  front = Keeps-then (take 4) _ _ _ c.append.ensures.front c.fill.ensures.front;
  after = λ limit inside.
      Keeps-then (drop limit) _ _ _ (c.append.ensures.after limit (omega (arith, inside))) (c.fill.ensures.after limit (omega (arith, inside, c.in_ok-append.ensures.appends.end)));
  cause = search rules;
}
