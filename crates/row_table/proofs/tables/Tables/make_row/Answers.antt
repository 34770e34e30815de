-- The row's table ends so, and the index takes the row that the store took.
use Rattle.std.proofs.Common.{rules, refl}
use Rattle.row_table.proofs.RowsMade.{Indexes-inserted}
use Rattle.row_table.proofs.tables.Tables.make_row.Goals as goal

pub returns : goal.returns
returns g c = record {
  ends = λ db held may. (_, refl, c.in_ok-slot.ensures.ends db held may.0 may.1);
  goes_on = search rules;
  index = λ db held may fine. (let on = c.in_ok-slot.ensures.leaves.goes_on (λ wrong. cc) in
      Indexes-inserted c.args.self.now.index c.added.new.self db c.in_ok-slot.slot c.args.row.now c.args.self.now.store c.make.new.store (g.B.Eeprom.chip c.args.bench.now) (g.B.Eeprom.chip c.make.new.bench)
      c.in_ok-slot.slot c.args.counter.now.slot c.args.counter.now.value c.requires.open.stand.index held may.0 (c.in_ok-slot.ensures.ends db held may.0 may.1) on.cells on.over
      c.in_ok-slot.ensures.there c.requires.counter.at c.in_ok-slot.ensures.made c.added.ensures.changes (λ before has_rows. c.added.ensures.added (g.B.Eeprom.chip c.make.new.bench) before on.over has_rows));
  index_cells = search rules;
  index_committed = search rules;
  index_begun = search rules;
  refused = search rules;
  committed = search rules;
  moments = c.make.ensures.leaves.moments;
  behind = c.make.ensures.leaves.behind;
  cause = search rules;
}
