-- Names are short, and few.
use Rattle.db_define.proofs.ObjectMade.{short-table}
use Rattle.db_define.proofs.table.new_table.Goals as goal

pub returns-clause-short : goal.returns-clause-short
returns-clause-short c = rw c.copy.ensures (short-table c.args.stamp c.actor_stamp.result c.args.name c.args.columns.now (rw c.octets.ensures.octets at c.octets.ensures.name) c.len.ensures.list)
