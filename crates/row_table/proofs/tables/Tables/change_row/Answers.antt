-- The record's table ends so; and the index stands, since the row keeps its stamp, its table and its slot.
use Rattle.std.proofs.Common.{rules, refl, sym}
use Rattle.row_table.proofs.RowsChanged.{index-row_changed}
use Rattle.row_table.proofs.tables.Tables.change_row.Goals as goal

pub returns : goal.returns
returns g c = record {
  ended = record {
    ends = λ db held may. (let like = rw held.told at c.requires.same in (_, refl, c.change_in_place.ensures.ends db like.was held (rw held.told (sym like.at)) (sym like.stamp) may.1));
    goes_on = c.change_in_place.ensures.leaves.goes_on;
    index = λ db held may fine. let like = rw held.told at c.requires.same in
        index-row_changed c.args.self.now.index db c.change_in_place.result c.args.self.now.store c.change_in_place.new.store (g.B.Eeprom.chip c.args.bench.now) (g.B.Eeprom.chip c.change_in_place.new.bench) c.args.row.now c.args.slot
        c.requires.open.stand.index c.requires.there may.0 c.requires.same (c.change_in_place.ensures.ends db like.was held (rw held.told (sym like.at)) (sym like.stamp) may.1) c.change_in_place.ensures.leaves.goes_on c.change_in_place.ensures.leaves.committed c.change_in_place.ensures.changed fine;
    index_cells = search rules;
    index_committed = search rules;
    index_begun = search rules;
    refused = c.change_in_place.ensures.leaves.refused;
    committed = c.change_in_place.ensures.leaves.committed;
    moments = c.change_in_place.ensures.leaves.moments;
    behind = c.change_in_place.ensures.leaves.behind;
    cause = c.change_in_place.ensures.leaves.cause;
  };
  index_same = search rules;
}
