-- The next of the rows that are shown is the row that was found, cut.
use Rattle.std.proofs.Common.{rules, None}
use Rattle.record_table.specs.Listed.{slots_of}
use Rattle.db_read.proofs.ShownRows.{next-cut, next-cut-reads, next-row}
use Rattle.db_read.proofs.Skipping.{costs-behind}
use Rattle.db_read.proofs.rows.next_chosen_row.Goals as goal

pub returns-then-branch : goal.returns-then-branch
returns-then-branch g c = record {
  rows = next-cut c.args.chosen.now c.args.stamp (slots_of c.args.reader.now.store.now c.args.reader.now.side (g.B.Eeprom.chip c.args.reader.now.bench.now)) c.shown_behind.new.room.row c.cut_into.new.out (rw c.if-branch.true at c.in_ok-shown_behind.ensures.row) c.cut_into.ensures;
  octets_read = next-cut-reads c.args.chosen.now c.args.stamp (slots_of c.args.reader.now.store.now c.args.reader.now.side (g.B.Eeprom.chip c.args.reader.now.bench.now)) c.shown_behind.new.room.row c.cut_into.new.out _ _ (rw c.if-branch.true at c.in_ok-shown_behind.ensures.row) c.cut_into.ensures
      (rw c.if-branch.true at c.in_ok-shown_behind.ensures.octets_read);
  reads = search rules;
}

pub returns-else-branch : goal.returns-else-branch
returns-else-branch g c = record {
  rows = next-row c.args.chosen.now c.args.stamp (slots_of c.args.reader.now.store.now c.args.reader.now.side (g.B.Eeprom.chip c.args.reader.now.bench.now)) None (rw c.if-branch.false at c.in_ok-shown_behind.ensures.row);
  octets_read = costs-behind c.args.chosen.now c.args.stamp _ None (slots_of c.args.reader.now.store.now c.args.reader.now.side (g.B.Eeprom.chip c.args.reader.now.bench.now)) _ _ (rw c.if-branch.false at c.in_ok-shown_behind.ensures.octets_read);
  reads = search rules;
}
