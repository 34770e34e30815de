-- The next of the rows that are shown has the stamp of the row that was found.
use Rattle.std.proofs.Common.{rules, Some, None}
use Rattle.record_table.specs.Listed.{slots_of}
use Rattle.db_read.proofs.Skipping.{costs-behind, next-shown}
use Rattle.db_read.proofs.rows.next_read.Goals as goal

pub returns-then-branch : goal.returns-then-branch
returns-then-branch g c = record {
  rows = next-shown c.args.chosen.now c.args.stamp (slots_of c.args.reader.now.store.now c.args.reader.now.side (g.B.Eeprom.chip c.args.reader.now.bench.now)) (Some c.shown_behind.new.room.row) (rw c.if-branch.true at c.in_ok-shown_behind.ensures.row);
  octets_read = costs-behind c.args.chosen.now c.args.stamp _ (Some c.shown_behind.new.room.row) (slots_of c.args.reader.now.store.now c.args.reader.now.side (g.B.Eeprom.chip c.args.reader.now.bench.now)) _ _ (rw c.if-branch.true at c.in_ok-shown_behind.ensures.octets_read);
  reads = search rules;
}

pub returns-else-branch : goal.returns-else-branch
returns-else-branch g c = record {
  rows = next-shown c.args.chosen.now c.args.stamp (slots_of c.args.reader.now.store.now c.args.reader.now.side (g.B.Eeprom.chip c.args.reader.now.bench.now)) None (rw c.if-branch.false at c.in_ok-shown_behind.ensures.row);
  octets_read = costs-behind c.args.chosen.now c.args.stamp _ None (slots_of c.args.reader.now.store.now c.args.reader.now.side (g.B.Eeprom.chip c.args.reader.now.bench.now)) _ _ (rw c.if-branch.false at c.in_ok-shown_behind.ensures.octets_read);
  reads = search rules;
}
