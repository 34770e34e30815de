-- A row that is chosen is the next; one that isn't is passed.
use Rattle.std.proofs.Common.{rules, ◌<◌, ◌≤◌, Option, sym, ◌∙◌, arith}
use Rattle.eeprom.specs.StoreOf.{Slots}
use Rattle.record_table.specs.Listed.{slots_of}
use Rattle.db_read.proofs.Skipping.{left-found, left-next, left-none, reads-end, reads-next, reads-passed}
use Rattle.db_read.proofs.ReadingOn.{on-further}
use Rattle.db_read.proofs.rows.shown_behind.Goals as goal

pub loop-room-preserved : goal.loop-room-preserved
loop-room-preserved g c =
    let slots : Option Slots = slots_of c.args.reader.now.store.now c.args.reader.now.side (g.B.Eeprom.chip c.args.reader.now.bench.now) in
    let low : c.args.stamp ≤ c.loop-room.passed = c.loop-room.invariant.low in
    let behind : c.loop-room.passed < c.row_behind.new.room.row.stamp = c.in_ok-row_behind.ensures.behind c.if-branch.true in
    record {
      same = c.in_ok-row_behind.ensures.reads.reads.frame.same ∙ c.loop-room.invariant.same;
      faults = c.in_ok-row_behind.ensures.reads.reads.frame.counts.1 ∙ c.loop-room.invariant.faults;
      goes_on = on-further _ _ _ c.loop-room.invariant.goes_on c.in_ok-row_behind.ensures.reads.reads.goes_on;
      low = rw c.stamp-passed.ensures (omega arith);
      left = rw c.stamp-passed.ensures (left-next c.args.chosen.now c.args.stamp c.loop-room.passed slots c.row_behind.new.room.row c.loop-room.invariant.left (rw (c.loop-room.invariant.goes_on.store, c.loop-room.invariant.goes_on.side, c.loop-room.invariant.same, c.if-branch.true) at c.in_ok-row_behind.ensures.reads.row) (sym c.shows.ensures ∙ c.if-shows.false));
      read = rw c.stamp-passed.ensures (reads-passed c.args.chosen.now c.args.stamp slots c.row_behind.new.room.row _ _ _ (reads-next c.args.chosen.now c.args.stamp c.loop-room.passed slots c.row_behind.new.room.row _ _ _ _ low behind c.loop-room.invariant.read (simp (c.loop-room.invariant.goes_on.store, c.loop-room.invariant.goes_on.side, c.loop-room.invariant.same, c.if-branch.true) at c.in_ok-row_behind.ensures.reads.octets_read)));
    }

pub returns-then-shows : goal.returns-then-shows
returns-then-shows g c = record {
  row = let slots : Option Slots = slots_of c.args.reader.now.store.now c.args.reader.now.side (g.B.Eeprom.chip c.args.reader.now.bench.now) in
      left-found c.args.chosen.now c.args.stamp c.loop-room.passed slots c.row_behind.new.room.row c.loop-room.invariant.left (rw (c.loop-room.invariant.goes_on.store, c.loop-room.invariant.goes_on.side, c.loop-room.invariant.same, c.if-branch.true) at c.in_ok-row_behind.ensures.reads.row) (sym c.shows.ensures ∙ c.if-shows.true);
  octets_read = let slots : Option Slots = slots_of c.args.reader.now.store.now c.args.reader.now.side (g.B.Eeprom.chip c.args.reader.now.bench.now) in
      let behind : c.loop-room.passed < c.row_behind.new.room.row.stamp = c.in_ok-row_behind.ensures.behind c.if-branch.true in
      reads-next c.args.chosen.now c.args.stamp c.loop-room.passed slots c.row_behind.new.room.row _ _ _ _ c.loop-room.invariant.low behind c.loop-room.invariant.read (simp (c.loop-room.invariant.goes_on.store, c.loop-room.invariant.goes_on.side, c.loop-room.invariant.same, c.if-branch.true) at c.in_ok-row_behind.ensures.reads.octets_read);
  reads = search rules;
}

pub returns : goal.returns
returns g c = record {
  row = let slots : Option Slots = slots_of c.args.reader.now.store.now c.args.reader.now.side (g.B.Eeprom.chip c.args.reader.now.bench.now) in
      left-none c.args.chosen.now c.args.stamp c.loop-room.passed slots c.loop-room.invariant.left (rw (c.loop-room.invariant.goes_on.store, c.loop-room.invariant.goes_on.side, c.loop-room.invariant.same, c.if-branch.false) at c.in_ok-row_behind.ensures.reads.row);
  octets_read = let slots : Option Slots = slots_of c.args.reader.now.store.now c.args.reader.now.side (g.B.Eeprom.chip c.args.reader.now.bench.now) in
      reads-end c.args.chosen.now c.args.stamp c.loop-room.passed slots _ _ _ c.loop-room.invariant.read (simp (c.loop-room.invariant.goes_on.store, c.loop-room.invariant.goes_on.side, c.loop-room.invariant.same, c.if-branch.false) at c.in_ok-row_behind.ensures.reads.octets_read);
  reads = search rules;
}
