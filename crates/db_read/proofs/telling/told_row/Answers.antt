-- The row of the stamp is the one that comes next behind the stamp before, where it is chosen.
use Rattle.std.proofs.Common.{rules, ◌-◌, sym, ◌∙◌, arith}
use Rattle.db_read.proofs.DictionaryRows.{there-hidden, there-none, there-other, there-shown, there-zero}
use Rattle.db_read.proofs.telling.told_row.Goals as goal

pub returns-then-stamp-eq0 : goal.returns-then-stamp-eq0
returns-then-stamp-eq0 g c = record {
  rows = rw c.if-stamp-eq0.true (there-zero c.args.told.now c.args.reader.now.store.now c.args.reader.now.side (g.B.Eeprom.chip c.args.reader.now.bench.now));
  reads = search rules;
}

pub returns-in_default : goal.returns-in_default
returns-in_default g c = record {
  rows = there-none c.args.told.now c.args.reader.now.store.now c.args.reader.now.side (g.B.Eeprom.chip c.args.reader.now.bench.now) c.args.stamp (c.args.stamp - 1) c.next_of.new.row (omega arith) (rw c.in_default.is at c.in_ok-next.ensures.next);
  reads = search rules;
}

pub returns-then-next-stamp : goal.returns-then-next-stamp
returns-then-next-stamp g c = record {
  rows = there-other c.args.told.now c.args.reader.now.store.now c.args.reader.now.side (g.B.Eeprom.chip c.args.reader.now.bench.now) c.args.stamp (c.args.stamp - 1) c.in-Some.next c.next_of.new.row (omega arith) (rw c.in-Some.is at c.in_ok-next.ensures.next) c.if-next-stamp.true;
  reads = search rules;
}

pub returns-then-not-matches : goal.returns-then-not-matches
returns-then-not-matches g c = record {
  rows = there-hidden c.args.told.now c.args.reader.now.store.now c.args.reader.now.side (g.B.Eeprom.chip c.args.reader.now.bench.now) c.args.stamp (c.args.stamp - 1) c.in-Some.next c.next_of.new.row (omega arith) (rw c.in-Some.is at c.in_ok-next.ensures.next) c.if-next-stamp.false
      (sym c.matches.ensures ∙ c.if-not-matches.true);
  reads = search rules;
}

pub returns : goal.returns
returns g c = record {
  rows = there-shown c.args.told.now c.args.reader.now.store.now c.args.reader.now.side (g.B.Eeprom.chip c.args.reader.now.bench.now) c.args.stamp (c.args.stamp - 1) c.in-Some.next c.next_of.new.row c.cut_into.new.out (omega arith) (rw c.in-Some.is at c.in_ok-next.ensures.next)
      c.if-next-stamp.false (sym c.matches.ensures ∙ c.if-not-matches.false) c.len.ensures.row c.cut_into.ensures;
  reads = search rules;
}
