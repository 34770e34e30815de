use Rattle.std.proofs.Common.{refl, rules, arith, length-append}
use Rattle.cell_store.proofs.Reading.{reads-none, reads-more}
use Rattle.cell_store.proofs.Along.{along-none, along-more}
use Rattle.cell_store.proofs.chain.read_payload.Goals as goal

pub loop-step-init : goal.loop-step-init
loop-step-init g c = record {
  size = omega arith;
  walked = along-none c.args.cells c.args.first c.args.payload.now.items (g.B.Eeprom.chip c.args.bench.now).image;
  read = reads-none (g.B.Eeprom.octets_read c.args.bench.now);
  same = refl;
  faults = refl;
}

pub loop-step-preserved : goal.loop-step-preserved
loop-step-preserved g c =
    let inv = c.loop-step.invariant in
    let more = c.in_ok-cell.ensures.cell.appends in
    record {
      size = rw (more.2) (omega (arith, length-append c.loop-step.payload.items more.0, more.1, inv.size));
      walked = along-more c.args.cells c.args.first c.loop-step.cell c.args.payload.now.items c.loop-step.payload.items c.read_cell.new.payload.items c.loop-step._step c.in_ok-cell.cell (g.B.Eeprom.chip c.args.bench.now).image
          c.requires.fits.many c.if-cell-cells.false (rw inv.same at c.in_ok-cell.ensures.cell.link) (rw inv.same at c.in_ok-cell.ensures.cell.payload) inv.walked;
      read = reads-more c.loop-step._step (g.B.Eeprom.octets_read c.args.bench.now) (g.B.Eeprom.octets_read c.loop-step.bench) (g.B.Eeprom.octets_read c.read_cell.new.bench) inv.read c.read_cell.ensures.reads.octets_read;
      same = search rules;
      faults = search rules;
    }
