-- The names so far, before the strings of the octets that are left.
use Rattle.std.proofs.Common.{◌≡◌, length}
use Rattle.scql_base.specs.Strings.{params_of}
use Rattle.apdu.proofs.NamesRead.{behind}
use Rattle.apdu.proofs.lists.columns_in.Given as goal

abbrev pub invariant-loop-string : goal.invariant-loop-string
invariant-loop-string l = behind l.names (params_of l.rest) ≡ params_of l.fn.octets

abbrev pub decreases-loop-string : goal.decreases-loop-string
decreases-loop-string l = length l.rest
