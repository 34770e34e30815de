use Rattle.std.proofs.Common.{rules}
use Rattle.cell_store.proofs.Walking.{cell-link, cell-payload}
use Rattle.cell_store.proofs.chain.read_cell.Goals as goal

pub returns-clause-cell : goal.returns-clause-cell
returns-clause-cell g c = record {
  link = cell-link c.args.cells c.args.cell c.number_of.result (g.B.Eeprom.chip c.args.bench.now).image c.read.new.into (rw c.cell_place.ensures at c.in_ok-read.ensures.octets) c.number_of.ensures.number;
  payload =
      cell-payload c.args.cells c.args.cell c.args.payload.now.items c.append.new.out.items (g.B.Eeprom.chip c.args.bench.now).image c.read.new.into (rw c.cell_place.ensures at c.in_ok-read.ensures.octets)
      c.append.ensures.appends;
  appends = search rules;
}
