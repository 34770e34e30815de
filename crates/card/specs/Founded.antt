-- What a view may rest on.
use Rattle.std.specs.Prelude.{Option, Some, None}
use Rattle.scql_base.specs.declared.records.ObjectKind.{ObjectKind}
use Rattle.scql_base.specs.declared.records.ObjectKind.TheVariants.{Table, View, Dictionary}
use Rattle.scql_model.specs.Matching.{Columns}

-- the columns of a table or a view
abbrev pub own_columns : ObjectKind → Option Columns
own_columns (Table columns) = Some columns
own_columns (View base columns conditions) = Some columns
own_columns (Dictionary subject) = None
