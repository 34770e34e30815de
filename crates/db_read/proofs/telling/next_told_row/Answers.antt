-- What is shown of the row that was found is handed out.
use Rattle.std.proofs.Common.{rules}
use Rattle.db_read.proofs.DictionaryRows.{handed-shown}
use Rattle.db_read.proofs.telling.next_told_row.Goals as goal

pub returns-in_default : goal.returns-in_default
returns-in_default g c = record {
  rows = rw c.in_default.is at c.in_ok-next.ensures.reads.rows;
  reads = search rules;
}

pub returns : goal.returns
returns g c = record {
  rows = λ rows told.
      let shown = rw c.in-Some.is at c.in_ok-next.ensures.reads.rows in
      let can_cut = rw c.in-Some.is at c.in_ok-next.ensures.can_cut in
      handed-shown c.args.told.now c.in-Some.next c.told_behind.new.row c.cut_into.new.out _ (shown rows told) (c.cut_into.ensures (can_cut rows told));
  reads = search rules;
}
