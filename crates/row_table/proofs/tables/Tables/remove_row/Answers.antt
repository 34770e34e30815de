-- The index loses the row that the store lost.
use Rattle.std.proofs.Common.{refl}
use Rattle.row_table.proofs.Followed.{Indexes-removed}
use Rattle.row_table.proofs.RowsChanged.{Makes-removed, committed-emptied}
use Rattle.row_table.proofs.tables.Tables.remove_row.Goals as goal

pub returns : goal.returns
returns c =
    let old = c.args.self.now.store in
    let new = c.remove.new.store in
    let done = c.remove.ensures in
    record {
      makes = λ chip db row stand held there with. Makes-removed old new chip db c.args.slot row held stand.over there with done.removed done.cells done.rows done.entries done.only;
      committed = λ chip stand. committed-emptied old new chip c.args.slot stand.over.stands done.removed;
      goes_on = λ chip stand. record { begun = done.begun; cells = done.cells; rows = done.rows; told = refl; over = done.over chip stand.over };
      index = λ chip stand. Indexes-removed c.args.self.now.index c.removed.new.self old new chip c.args.slot stand.over.stands done.cells c.requires.there done.removed c.removed.ensures.changes (c.removed.ensures.removed chip stand.over stand.index) stand.index;
      changes = c.removed.ensures.changes;
    }
