-- A mark, two stamps and the row are no longer than a record.
use Rattle.std.proofs.Common.{arith}
use Rattle.scql_base.proofs.RowOctets.{row_size-spelled}
use Rattle.db_write.proofs.updating.record_after.Goals as goal

pub returns-clause-short : goal.returns-clause-short
returns-clause-short c = omega (arith, row_size-spelled c.row_after.new.after, c.len.ensures.row.size)
