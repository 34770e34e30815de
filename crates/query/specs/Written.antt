-- What a line says, before its names are looked up.
use Rattle.std.specs.Prelude.{List}
use Rattle.query.specs.declared.written.Named.{Named}
use Rattle.query.specs.declared.written.Source.{Source}
use Rattle.query.specs.declared.written.Pair.{Pair}

-- the columns behind SELECT, the objects behind FROM, the columns that are to be equal, and those behind ORDER BY
pub record Written : Type 0 where
  pub selected : List Named
  pub sources : List Source
  pub pairs : List Pair
  pub order : List Named
