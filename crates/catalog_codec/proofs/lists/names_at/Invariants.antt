-- The names so far and those still to be read are the names of the whole.
use Rattle.std.proofs.Common.{◌≡◌, ◌-◌, length}
use Rattle.scql_base.specs.Name.{is_name}
use Rattle.scql_model.specs.Fields.{many_at, text_at}
use Rattle.catalog_codec.proofs.ListedFields.{behind}
use Rattle.catalog_codec.proofs.lists.names_at.Given as goal

abbrev pub invariant-loop : goal.invariant-loop
invariant-loop l = record {
  read : behind l.names (many_at (text_at is_name) (l.count - l.counter) l.rest) ≡ many_at (text_at is_name) l.count l.fn.octets;
  many : length l.names ≡ l.counter;
}
