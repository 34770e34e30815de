-- The record's table ends so; and the index stands, since every row stays in its slot.
use Rattle.std.proofs.Common.{rules, Ok, refl}
use Rattle.row_table.proofs.Endings.{Indexes-ended}
use Rattle.row_table.proofs.tables.Tables.make.Goals as goal

pub returns : goal.returns
returns g c = record {
  ended = record {
    ends = λ db held may. (_, refl, c.in_ok-make.ensures.ends db held may.0 may.1);
    goes_on = search rules;
    index = λ db held may fine. Indexes-ended c.args.self.now.index db _ (Ok c.in_ok-make.field-0) c.args.self.now.store c.make.new.store (g.B.Eeprom.chip c.args.bench.now) (g.B.Eeprom.chip c.make.new.bench) c.requires.open.stand.index
        (c.in_ok-make.ensures.ends db held may.0 may.1) (λ fine. c.in_ok-make.ensures.rows c.requires.no_row) c.in_ok-make.ensures.leaves.goes_on (λ wrong. cc);
    index_cells = search rules;
    index_committed = search rules;
    index_begun = search rules;
    refused = search rules;
    committed = search rules;
    moments = c.make.ensures.leaves.moments;
    behind = c.make.ensures.leaves.behind;
    cause = search rules;
  };
  rows = c.in_ok-make.ensures.rows c.requires.no_row;
}
