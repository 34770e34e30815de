-- What is shown of the row that was found has its stamp.
use Rattle.std.proofs.Common.{rules}
use Rattle.std.proofs.lemmas.Result.{IfOk-weaker}
use Rattle.db_read.proofs.DictionaryRows.{stamp-shown}
use Rattle.db_read.proofs.telling.next_told.Goals as goal

pub returns : goal.returns
returns g c = record {
  rows = IfOk-weaker c.told_behind.result _ _ (λ next shown rows told. stamp-shown c.args.told.now next c.told_behind.new.row _ (shown rows told)) c.told_behind.ensures.reads.rows;
  reads = search rules;
}
