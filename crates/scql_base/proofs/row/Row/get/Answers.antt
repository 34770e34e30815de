use Rattle.scql_base.proofs.RowOctets.{params_of-spelling}
use Rattle.scql_base.proofs.row.Row.get.Goals as goal

pub invariant_of-get : goal.invariant_of-get
invariant_of-get c = rw c.as_slice.ensures.value (params_of-spelling c.self.inside.octets.items c.self.invariant.1, c.self.invariant.2)
