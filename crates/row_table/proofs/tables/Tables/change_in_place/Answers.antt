-- The record's table ends so; and the index stands, since every row stays in its slot.
use Rattle.std.proofs.Common.{rules, refl, sym}
use Rattle.record_table.proofs.Ending.{KeepsRows-ended}
use Rattle.row_table.proofs.Endings.{Indexes-ended}
use Rattle.row_table.proofs.tables.Tables.change_in_place.Goals as goal

pub returns : goal.returns
returns g c = record {
  ends = λ db held valid. (let was = rw held.told at c.requires.at in (_, refl, c.change_in_place.ensures.ends db was.0 held (rw held.told (sym was.1)) was.2 valid));
  goes_on = c.change_in_place.ensures.leaves.goes_on;
  index = λ db held valid. let was = rw held.told at c.requires.at in
      Indexes-ended c.args.self.now.index db _ c.change_in_place.result c.args.self.now.store c.change_in_place.new.store (g.B.Eeprom.chip c.args.bench.now) (g.B.Eeprom.chip c.change_in_place.new.bench) c.requires.open.stand.index
      (c.change_in_place.ensures.ends db was.0 held (rw held.told (sym was.1)) was.2 valid)
      (KeepsRows-ended c.change_in_place.result _ _ (c.change_in_place.ensures.rows was.0 c.requires.no_row (rw held.told (sym was.1))) c.change_in_place.ensures.leaves.refused) c.change_in_place.ensures.leaves.goes_on;
  index_cells = search rules;
  index_committed = search rules;
  index_begun = search rules;
  refused = c.change_in_place.ensures.leaves.refused;
  committed = c.change_in_place.ensures.leaves.committed;
  moments = c.change_in_place.ensures.leaves.moments;
  behind = c.change_in_place.ensures.leaves.behind;
  cause = c.change_in_place.ensures.leaves.cause;
}
