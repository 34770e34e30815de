-- The row of the stamp is handed out where it is chosen.
use Rattle.std.proofs.Common.{rules, Some, None, sym, ◌∙◌}
use Rattle.record_table.specs.Listed.{slots_of}
use Rattle.db_read.specs.Costs.{row_read}
use Rattle.db_read.proofs.ShownRows.{reads-none, row-cut, row-cut-reads, row-there}
use Rattle.db_read.proofs.rows.chosen_row.Goals as goal

pub returns-then-not-branch : goal.returns-then-not-branch
returns-then-not-branch g c = record {
  rows = row-there c.args.chosen.now c.args.stamp (slots_of c.args.reader.now.store.now c.args.reader.now.side (g.B.Eeprom.chip c.args.reader.now.bench.now)) None (rw c.if-not-branch.true at c.in_ok-row_of_table.ensures.row);
  octets_read = reads-none c.args.chosen.now c.args.stamp (slots_of c.args.reader.now.store.now c.args.reader.now.side (g.B.Eeprom.chip c.args.reader.now.bench.now)) (row_read c.in_ok-row_of_table.field-0 c.row_of_table.new.room.row) _ _ c.in_ok-row_of_table.ensures.octets_read;
  reads = search rules;
}

pub returns-then-not-shows : goal.returns-then-not-shows
returns-then-not-shows g c = record {
  rows = let hidden = sym c.shows.ensures ∙ c.if-not-shows.true in
      let there = row-there c.args.chosen.now c.args.stamp (slots_of c.args.reader.now.store.now c.args.reader.now.side (g.B.Eeprom.chip c.args.reader.now.bench.now)) (Some c.row_of_table.new.room.row) (rw c.if-not-branch.false at c.in_ok-row_of_table.ensures.row) in
      rw hidden at there;
  octets_read = reads-none c.args.chosen.now c.args.stamp (slots_of c.args.reader.now.store.now c.args.reader.now.side (g.B.Eeprom.chip c.args.reader.now.bench.now)) (row_read c.in_ok-row_of_table.field-0 c.row_of_table.new.room.row) _ _ c.in_ok-row_of_table.ensures.octets_read;
  reads = search rules;
}

pub returns : goal.returns
returns g c = record {
  rows = row-cut c.args.chosen.now c.args.stamp (slots_of c.args.reader.now.store.now c.args.reader.now.side (g.B.Eeprom.chip c.args.reader.now.bench.now)) c.row_of_table.new.room.row c.cut_into.new.out (rw c.if-not-branch.false at c.in_ok-row_of_table.ensures.row)
      (sym c.shows.ensures ∙ c.if-not-shows.false) c.cut_into.ensures;
  octets_read = row-cut-reads c.args.chosen.now c.args.stamp (slots_of c.args.reader.now.store.now c.args.reader.now.side (g.B.Eeprom.chip c.args.reader.now.bench.now)) c.row_of_table.new.room.row c.cut_into.new.out _ _ (rw c.if-not-branch.false at c.in_ok-row_of_table.ensures.row)
      (sym c.shows.ensures ∙ c.if-not-shows.false) c.cut_into.ensures (rw c.if-not-branch.false at c.in_ok-row_of_table.ensures.octets_read);
  reads = search rules;
}
