-- The index answers the slot of the row, if there is one.
use Rattle.std.proofs.Common.{rules}
use Rattle.std.proofs.lemmas.Result.{IfOk-weaker}
use Rattle.record_table.specs.Listed.{slots_of}
use Rattle.db_read.specs.Costs.{row_read}
use Rattle.db_read.proofs.RowReads.{indexed-found, indexed-none, indexed-reads, indexed-told}
use Rattle.db_read.proofs.rows.row_of_table.Goals as goal

pub returns-in_default : goal.returns-in_default
returns-in_default g c = record {
  row = indexed-none c.args.table c.args.stamp (slots_of c.args.reader.now.store.now c.args.reader.now.side (g.B.Eeprom.chip c.args.reader.now.bench.now)) c.find.result (c.find.ensures.value (g.B.Eeprom.chip c.args.reader.now.bench.now) c.args.reader.now.over c.args.reader.now.indexes) c.in_default.is;
  octets_read = search rules;
  reads = search rules;
}

pub returns : goal.returns
returns g c = record {
  row = let chip = g.B.Eeprom.chip c.args.reader.now.bench.now in
      let told = indexed-told c.args.reader.now.index.now c.args.reader.now.store.now chip c.args.reader.now.side c.args.table c.args.stamp c.in-Some.slot c.find.result (c.find.ensures.value chip c.args.reader.now.over c.args.reader.now.indexes) c.args.reader.now.indexes c.in-Some.is in
      IfOk-weaker c.row_in.result _ _ (λ there value. indexed-found c.args.table c.args.stamp c.in-Some.slot (slots_of c.args.reader.now.store.now c.args.reader.now.side (g.B.Eeprom.chip c.args.reader.now.bench.now)) (row_read there c.row_in.new.room.row) told value) c.row_in.ensures.row;
  octets_read = let chip = g.B.Eeprom.chip c.args.reader.now.bench.now in
      let told = indexed-told c.args.reader.now.index.now c.args.reader.now.store.now chip c.args.reader.now.side c.args.table c.args.stamp c.in-Some.slot c.find.result (c.find.ensures.value chip c.args.reader.now.over c.args.reader.now.indexes) c.args.reader.now.indexes c.in-Some.is in
      IfOk-weaker c.row_in.result _ _ (λ there reads. indexed-reads c.args.table c.args.stamp c.in-Some.slot (slots_of c.args.reader.now.store.now c.args.reader.now.side (g.B.Eeprom.chip c.args.reader.now.bench.now)) (row_read there c.row_in.new.room.row) _ _ told reads) c.row_in.ensures.octets_read;
  reads = search rules;
}
