-- Where all rows are chosen, the stamp that the index has is that of the next.
use Rattle.std.proofs.Common.{rules}
use Rattle.record_table.specs.Listed.{slots_of}
use Rattle.db_read.proofs.RowReads.{stamps-behind}
use Rattle.db_read.proofs.Skipping.{next-of_all, reads-nothing}
use Rattle.db_read.proofs.rows.next_chosen.Goals as goal

pub returns-then-shows_all : goal.returns-then-shows_all
returns-then-shows_all g c = record {
  rows = next-of_all c.args.chosen.now c.args.stamp (slots_of c.args.reader.now.store.now c.args.reader.now.side (g.B.Eeprom.chip c.args.reader.now.bench.now)) c.stamp_behind.result (c.shows_all.ensures c.if-shows_all.true)
      (stamps-behind c.args.chosen.now.table c.args.stamp (slots_of c.args.reader.now.store.now c.args.reader.now.side (g.B.Eeprom.chip c.args.reader.now.bench.now)) c.stamp_behind.result (c.stamp_behind.ensures (g.B.Eeprom.chip c.args.reader.now.bench.now) c.args.reader.now.over c.args.reader.now.indexes));
  octets_read = reads-nothing _ _ _;
  reads = search rules;
}
