-- The names so far, before the strings of the octets that are left.
use Rattle.std.proofs.Common.{◌≡◌, length}
use Rattle.scql_base.specs.Strings.{params_of}
use Rattle.apdu.proofs.NamesRead.{behind}
use Rattle.apdu.proofs.lists.names_in.Given as goal

abbrev pub invariant-loop : goal.invariant-loop
invariant-loop l = record {
  split : behind l.names (params_of l.rest) ≡ params_of l.fn.octets;
  size : length l.names ≡ l.counter;
}
