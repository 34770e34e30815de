use Rattle.std.proofs.Common.{ap, rules, arith}
use Rattle.std.proofs.lemmas.Grind.{common_steps}
use Rattle.cell_store.specs.Cells.{Cells}
use Rattle.cell_store.proofs.ReadRecord.{record-some}
use Rattle.cell_store.proofs.Counting.{count-copied, some-copied}
use Rattle.cell_store.proofs.store.CellStore.claim_record.Goals as goal

pub returns : goal.returns
returns g c = record {
  claims = grind (arith, common_steps);
  reads =
      record-some c.args.self.now.cells c.args.first (g.B.Eeprom.chip c.args.bench.now).image (g.B.Eeprom.chip c.args.bench.now).still.size c.claim_cells.new.payload.items c.copy_record.new.out.items
      c.requires.room (g.met.B.Eeprom.sized c.args.bench.now) (rw (ap (λ (store : Cells). store.cells) c.self.view_is) at c.in_ok-count.ensures.payload) (rw c.as_slice.ensures.value at c.copy_record.ensures.«record»);
  some =
      some-copied c.claim_cells.new.payload.items c.copy_record.new.out.items c.in_ok-count.count c.in_ok-count.ensures.count c.in_ok-count.ensures.size (rw c.as_slice.ensures.value at c.copy_record.ensures.«record»);
  count =
      count-copied c.claim_cells.new.payload.items c.copy_record.new.out.items c.in_ok-count.count c.in_ok-count.ensures.count c.in_ok-count.ensures.size (rw c.as_slice.ensures.value at c.copy_record.ensures.«record»);
}
