-- What is put and what is still to be put are the whole.
use Rattle.std.proofs.Common.{◌≡◌, ◌++◌, drop}
use Rattle.std.specs.List.{flat_map}
use Rattle.scql_base.specs.Strings.{spelled}
use Rattle.scql_model.specs.Records.{columns}
use Rattle.catalog_codec.proofs.lists.put_columns.Given as goal

abbrev pub invariant-loop-column : goal.invariant-loop-column
invariant-loop-column l = l.out.items ++ flat_map spelled (drop l.column-index l.column-items) ≡ l.fn.out.items ++ columns.spell l.columns
