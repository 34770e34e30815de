-- The slot is emptied.
use Rattle.std.proofs.Common.{refl}
use Rattle.record_table.proofs.Rewriting.{removed, over-told, stands-removed}
use Rattle.record_table.proofs.changing.remove.Goals as goal

pub returns : goal.returns
returns c =
    let old = c.args.store.now in
    let new = c.remove.new.self in
    record {
      removed = λ image over. removed old new c.args.slot image (c.remove.ensures.removed image over);
      over = λ chip over. over-told old new chip chip over c.remove.ensures.cells refl (stands-removed old new c.args.slot chip.image c.remove.ensures.removed over.stands);
      begun = c.remove.ensures.begun;
      cells = c.remove.ensures.cells;
      rows = c.remove.ensures.rows;
      only = c.remove.ensures.only;
      entries = c.remove.ensures.entries;
    }
