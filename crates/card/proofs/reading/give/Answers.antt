-- A row has as many octets as its size, which is at most the largest.
use Rattle.std.proofs.Common.{arith}
use Rattle.scql_base.proofs.RowOctets.{row_size-spelled}
use Rattle.card.proofs.reading.give.Goals as goal

pub start-requires : goal.start-requires
start-requires c = record { row = (let size = c.len.ensures.row.size in rw c.octets.ensures (omega (arith, size, row_size-spelled c.args.row.now))) }
