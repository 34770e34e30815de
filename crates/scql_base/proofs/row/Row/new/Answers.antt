use Rattle.std.proofs.Common.{[], lit≤, refl}
use Rattle.scql_base.specs.Row.{IsRow}
use Rattle.scql_base.proofs.RowOctets.{strings_of-empty}
use Rattle.scql_base.proofs.row.Row.new.Goals as goal

empty : IsRow []
empty = record { count = lit≤ tt; widths = refl; size = lit≤ tt }

pub invariant_of-result : goal.invariant_of-result
invariant_of-result c = rw (strings_of-empty c.new.result.items c.new.ensures) (empty, c.new.ensures, refl)

pub returns : goal.returns
returns c = strings_of-empty c.new.result.items c.new.ensures
