-- Slot by slot, until the table has no row.
use Rattle.std.proofs.Common.{refl, sym, subst, ◌∙◌, arith}
use Rattle.record_store.specs.declared.side.Side.TheVariants.{Working}
use Rattle.record_table.specs.Listed.{slots_of}
use Rattle.record_table.proofs.SweptSlots.{emptied-told}
use Rattle.row_index.specs.Index.{Indexes}
use Rattle.row_table.proofs.RemovedRows.{Indexes-without_table, entries-rows, only-row, only-rows, removed-row, removed-rows}
use Rattle.row_table.proofs.RowsChanged.{committed-emptied}
use Rattle.row_table.proofs.tables.Tables.remove_rows.Goals as goal

pub loop-slot-preserved : goal.loop-slot-preserved
loop-slot-preserved c =
    let so_far = c.loop-slot.invariant in
    let done = c.remove.ensures in
    record {
      begun = done.begun ∙ so_far.begun;
      cells = done.cells ∙ so_far.cells;
      rows = done.rows ∙ so_far.rows;
      over = λ chip over. done.over chip (so_far.over chip over);
      emptied = λ chip over. removed-row c.loop-slot.store c.remove.new.store chip c.rows_of-slot-items.result.now c.loop-slot.slot-index _ _ (slots_of c.args.self.now.store Working chip) c.loop-slot-test.true (so_far.emptied chip over)
          (emptied-told c.loop-slot.store c.remove.new.store chip _ (so_far.over chip over).stands done.removed) refl;
      committed = λ chip over. committed-emptied c.loop-slot.store c.remove.new.store chip _ (so_far.over chip over).stands done.removed ∙ so_far.committed chip over;
      only = only-row c.args.self.now.store c.loop-slot.store c.remove.new.store c.rows_of-slot-items.result.now c.loop-slot.slot-index _ _ c.loop-slot-test.true so_far.only done.only refl;
      entries = omega (arith, done.entries, so_far.entries);
    }

pub returns : goal.returns
returns c =
    let old = c.args.self.now.store in
    let new = c.loop-slot.store in
    let index = c.args.self.now.index in
    let numbers = c.rows_of-slot-items.result.now in
    let done = c.loop-slot.invariant in
    record {
      removed = λ chip stand. removed-rows new chip c.args.table c.loop-slot.slot-index numbers (slots_of old Working chip) c.loop-slot-test.false (c.rows_of-slot-items.ensures.rows chip stand.over stand.index) (done.emptied chip stand.over);
      committed = λ chip stand. done.committed chip stand.over;
      goes_on = λ chip stand. record { begun = done.begun; cells = done.cells; rows = done.rows; told = refl; over = done.over chip stand.over };
      only = λ chip stand. only-rows old new c.args.table c.loop-slot.slot-index numbers (slots_of old Working chip) c.loop-slot-test.false (c.rows_of-slot-items.ensures.rows chip stand.over stand.index) done.only;
      entries = λ chip stand. entries-rows old new c.args.table c.loop-slot.slot-index numbers (slots_of old Working chip) c.loop-slot.auto.slot-index-end (c.rows_of-slot-items.ensures.rows chip stand.over stand.index) done.entries;
      index = λ chip stand. subst (λ index. Indexes index new chip) (sym c.table_removed.ensures.removed)
          (Indexes-without_table index c.args.table old new chip stand.over stand.index done.cells (done.committed chip stand.over)
          (removed-rows new chip c.args.table c.loop-slot.slot-index numbers (slots_of old Working chip) c.loop-slot-test.false (c.rows_of-slot-items.ensures.rows chip stand.over stand.index) (done.emptied chip stand.over)));
      changes = rw c.table_removed.ensures.removed record { cells = refl; begun = refl; committed = refl };
    }
