-- What a query asks for.
use Rattle.std.specs.Prelude.{List}
use Rattle.row_join.specs.declared.column.Column.{Column}
use Rattle.row_join.specs.declared.column.Equality.{Equality}
use Rattle.query.specs.declared.query.AskedObject.{AskedObject}

-- the objects in FROM's order, the columns that are given, the columns that are to be equal, and those that give the order
pub record Asked : Type 0 where
  pub objects : List AskedObject
  pub selected : List Column
  pub equalities : List Equality
  pub order : List Column
