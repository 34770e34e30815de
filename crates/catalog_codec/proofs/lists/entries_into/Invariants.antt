-- The conditions so far and those still to be read are the conditions of the whole.
use Rattle.std.proofs.Common.{◌≡◌, ◌-◌, length}
use Rattle.scql_model.specs.Fields.{many_at}
use Rattle.catalog_codec.specs.Conditions.{condition}
use Rattle.catalog_codec.proofs.ListedFields.{behind}
use Rattle.catalog_codec.proofs.lists.entries_into.Given as goal

abbrev pub invariant-loop : goal.invariant-loop
invariant-loop l = record {
  read : behind l.conditions (many_at condition.read (l.count - l.counter) l.rest) ≡ many_at condition.read l.count l.fn.octets;
  many : length l.conditions ≡ l.counter;
}
