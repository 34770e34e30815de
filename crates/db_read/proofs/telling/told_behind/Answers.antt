-- A row that is chosen is the next; one that isn't is passed.
use Rattle.std.proofs.Common.{rules, sym, ◌∙◌}
use Rattle.db_read.proofs.DictionaryRows.{left-early, left-found, left-next, left-none, next-cuts}
use Rattle.db_read.proofs.telling.told_behind.Goals as goal

pub returns-then-matches-clause-can_cut : goal.returns-then-matches-clause-can_cut
returns-then-matches-clause-can_cut g c =
    next-cuts c.args.told.now c.args.reader.now.store.now c.args.reader.now.side (g.B.Eeprom.chip c.args.reader.now.bench.now) c.loop-next.passed c.in-Some.next c.next_of.new.row (rw (c.loop-next.invariant.goes_on.store, c.loop-next.invariant.goes_on.side, c.loop-next.invariant.same, c.in-Some.is) at c.in_ok-next.ensures.next) c.len.ensures.row

pub loop-next-preserved : goal.loop-next-preserved
loop-next-preserved g c = record {
  same = c.in_ok-next.ensures.reads.frame.same ∙ c.loop-next.invariant.same;
  faults = c.in_ok-next.ensures.reads.frame.counts.1 ∙ c.loop-next.invariant.faults;
  goes_on = record {
    store = c.in_ok-next.ensures.reads.goes_on.store ∙ c.loop-next.invariant.goes_on.store;
    index = c.in_ok-next.ensures.reads.goes_on.index ∙ c.loop-next.invariant.goes_on.index;
    side = c.in_ok-next.ensures.reads.goes_on.side ∙ c.loop-next.invariant.goes_on.side;
    bench = c.in_ok-next.ensures.reads.goes_on.bench ∙ c.loop-next.invariant.goes_on.bench;
  };
  left = left-next c.args.told.now c.args.reader.now.store.now c.args.reader.now.side (g.B.Eeprom.chip c.args.reader.now.bench.now) c.args.stamp c.loop-next.passed c.in-Some.next c.next_of.new.row c.loop-next.invariant.left
      (rw (c.loop-next.invariant.goes_on.store, c.loop-next.invariant.goes_on.side, c.loop-next.invariant.same, c.in-Some.is) at c.in_ok-next.ensures.next) (sym c.matches.ensures ∙ c.if-matches.false);
}

pub returns-then-next-passed-clause-reads : goal.returns-then-next-passed-clause-reads
returns-then-next-passed-clause-reads g c = record {
  rows = left-early c.args.told.now c.args.reader.now.store.now c.args.reader.now.side (g.B.Eeprom.chip c.args.reader.now.bench.now) c.loop-next.passed c.in-Some.next c.next_of.new.row _ (rw (c.loop-next.invariant.goes_on.store, c.loop-next.invariant.goes_on.side, c.loop-next.invariant.same, c.in-Some.is) at c.in_ok-next.ensures.next) c.if-next-passed.true;
  reads = search rules;
}

pub returns-then-matches-clause-reads : goal.returns-then-matches-clause-reads
returns-then-matches-clause-reads g c = record {
  rows = left-found c.args.told.now c.args.reader.now.store.now c.args.reader.now.side (g.B.Eeprom.chip c.args.reader.now.bench.now) c.args.stamp c.loop-next.passed c.in-Some.next c.next_of.new.row c.loop-next.invariant.left
      (rw (c.loop-next.invariant.goes_on.store, c.loop-next.invariant.goes_on.side, c.loop-next.invariant.same, c.in-Some.is) at c.in_ok-next.ensures.next) (sym c.matches.ensures ∙ c.if-matches.true);
  reads = search rules;
}

pub returns-clause-reads : goal.returns-clause-reads
returns-clause-reads g c = record {
  rows = left-none c.args.told.now c.args.reader.now.store.now c.args.reader.now.side (g.B.Eeprom.chip c.args.reader.now.bench.now) c.args.stamp c.loop-next.passed c.next_of.new.row c.loop-next.invariant.left
      (rw (c.loop-next.invariant.goes_on.store, c.loop-next.invariant.goes_on.side, c.loop-next.invariant.same, c.in_default.is) at c.in_ok-next.ensures.next);
  reads = search rules;
}
