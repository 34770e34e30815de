use Rattle.std.proofs.Common.{ap, arith, rules, [], OnOk}
use Rattle.eeprom.specs.Chip.{Chip}
use Rattle.eeprom.specs.StoreOf.{longest_chain}
use Rattle.cell_store.specs.Walk.{CopiesRecord}
use Rattle.cell_store.proofs.Along.{along-longer, copies-behind, copied-record, copied-reads, then-record, then-reads}
use Rattle.cell_store.proofs.chain.read_record.Goals.{After-copy_record, After-read_longer}
use Rattle.cell_store.proofs.chain.read_record.Goals as goal

-- the chain has one cell
short : (g : _) (c : After-copy_record g) → CopiesRecord c.args.cells c.args.first longest_chain [] c.copy_record.new.out.items
    (g.B.Eeprom.chip c.args.bench.now).image (g.B.Eeprom.octets_read c.args.bench.now) (g.B.Eeprom.octets_read c.read_payload.new.bench)
short g c = record {
  next = c.in_ok-next.next;
  payload = c.read_payload.new.payload.items;
  along = along-longer c.args.cells c.args.first c.in_ok-next.next 1 longest_chain [] c.read_payload.new.payload.items (g.B.Eeprom.chip c.args.bench.now).image (g.B.Eeprom.octets_read c.args.bench.now) (g.B.Eeprom.octets_read c.read_payload.new.bench)
      (omega arith) c.if-next-cells.true (rw c.new-piece.ensures at c.in_ok-next.ensures.along);
  copied = rw c.as_slice.ensures.value at c.copy_record.ensures.record;
}

pub returns-then-next-cells : goal.returns-then-next-cells
returns-then-next-cells g c =
    let short = short g (goal.at.returns-then-next-cells g c).After-copy_record in
    record {
      «record» = copied-record c.args.cells c.args.first (g.B.Eeprom.chip c.args.bench.now).still.size c.copy_record.new.out.items (g.B.Eeprom.chip c.args.bench.now).image (g.B.Eeprom.octets_read c.args.bench.now)
          (g.B.Eeprom.octets_read c.read_payload.new.bench) c.requires.fits.room (g.met.B.Eeprom.sized c.args.bench.now) short;
      octets_read = copied-reads c.args.cells c.args.first (g.B.Eeprom.chip c.args.bench.now).still.size c.copy_record.new.out.items (g.B.Eeprom.chip c.args.bench.now).image (g.B.Eeprom.octets_read c.args.bench.now)
          (g.B.Eeprom.octets_read c.read_payload.new.bench) c.requires.fits.room (g.met.B.Eeprom.sized c.args.bench.now) short;
      frame = search rules;
    }

-- the chain has several
longer : (g : _) (c : After-read_longer g) → OnOk c.read_longer.result (CopiesRecord c.args.cells c.args.first longest_chain [] c.read_longer.new.out.items
    (g.B.Eeprom.chip c.args.bench.now).image (g.B.Eeprom.octets_read c.args.bench.now) (g.B.Eeprom.octets_read c.read_longer.new.bench))
longer g c =
    copies-behind c.read_longer.result c.args.cells c.args.first c.in_ok-next.next 1 34 [] c.read_payload.new.payload.items c.read_longer.new.out.items (g.B.Eeprom.chip c.args.bench.now).image (g.B.Eeprom.chip c.read_payload.new.bench).image
    (g.B.Eeprom.octets_read c.args.bench.now) (g.B.Eeprom.octets_read c.read_payload.new.bench) (g.B.Eeprom.octets_read c.read_longer.new.bench)
    c.if-next-cells.false (ap (λ (chip : Chip). chip.image) c.in_ok-next.ensures.frame.same) (rw c.new-piece.ensures at c.in_ok-next.ensures.along) (rw c.as_slice-2.ensures.value at c.read_longer.ensures.copies)

pub returns : goal.returns
returns g c =
    let longer = longer g (goal.at.returns g c).After-read_longer in
    record {
      «record» = then-record c.read_longer.result c.args.cells c.args.first (g.B.Eeprom.chip c.args.bench.now).still.size c.read_longer.new.out.items (g.B.Eeprom.chip c.args.bench.now).image
          (g.B.Eeprom.octets_read c.args.bench.now) (g.B.Eeprom.octets_read c.read_longer.new.bench) c.requires.fits.room (g.met.B.Eeprom.sized c.args.bench.now) longer;
      octets_read = then-reads c.read_longer.result c.args.cells c.args.first (g.B.Eeprom.chip c.args.bench.now).still.size c.read_longer.new.out.items (g.B.Eeprom.chip c.args.bench.now).image
          (g.B.Eeprom.octets_read c.args.bench.now) (g.B.Eeprom.octets_read c.read_longer.new.bench) c.requires.fits.room (g.met.B.Eeprom.sized c.args.bench.now) longer;
      frame = search rules;
    }
