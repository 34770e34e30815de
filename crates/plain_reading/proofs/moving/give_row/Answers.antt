use Rattle.scql_base.proofs.RowOctets.{row_size-spelled}
use Rattle.plain_reading.proofs.moving.give_row.Goals as goal

pub give-requires : goal.give-requires
give-requires c = rw (c.octets-octets.ensures, row_size-spelled c.args.values.now) c.len.ensures.row.size
