-- A row costs its cells at most, and its octets at least.
use Rattle.std.proofs.Common.{rules, ◌≡◌, true}
use Rattle.scql_base.specs.declared.records.RowRecord.{RowRecord}
use Rattle.catalog_codec.specs.Catalog.{row_kind}
use Rattle.db_read.specs.Costs.{row_read}
use Rattle.db_read.proofs.RowReads.{reads-row, said-read}
use Rattle.db_read.proofs.rows.row_in.Goals as goal

pub returns : goal.returns
returns g c = record {
  row = search rules;
  octets_read = let spelled = said-read c.decode_into.result c.is_some.result c.decode_into.new.row (λ (x : RowRecord). (row_kind.form.fits x ≡ true) × (c.get.new.out.items ≡ row_kind.form.spell x)) c.is_some.ensures (rw c.as_slice.ensures.value at c.decode_into.ensures.found) in
      reads-row c.args.reader.now.store.now c.args.reader.now.side c.args.slot (g.B.Eeprom.chip c.args.reader.now.bench.now).image c.is_row.result c.get.new.out.items (row_read c.is_some.result c.decode_into.new.row) _ _ c.args.reader.now.over.stands c.is_row.ensures c.if-not-is_row.false
      (rw c.if-not-branch.false at c.in_ok-get.ensures.found) (rw c.if-not-branch.false at c.in_ok-get.ensures.octets_read) spelled;
  reads = search rules;
}
