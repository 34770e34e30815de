-- The contents of tables, views and dictionaries: columns, and rows in rising order of their stamps.
use Rattle.std.specs.Prelude.{ℕ, zero, suc, ◌+◌, List, [], map, filter, Option, Some, None}
use Rattle.scql_base.specs.declared.condition.Condition.{Condition}
use Rattle.scql_base.specs.declared.records.Object.{Object}
use Rattle.scql_base.specs.declared.records.ObjectKind.{ObjectKind}
use Rattle.scql_base.specs.declared.records.ObjectKind.TheVariants.{Table, View, Dictionary}
use Rattle.scql_base.specs.declared.records.RowRecord.{RowRecord}
use Rattle.scql_model.specs.Database.{Database, object_stamped, rows_of}
use Rattle.scql_model.specs.Objects.{StampedRow, columns_of, deepest}
use Rattle.scql_model.specs.Matching.{Columns, Values, value_of, matches}
use Rattle.scql_model.specs.Dictionaries.{rows_told}

pub record Contents : Type 0 where
  pub columns : Columns
  pub rows : List StampedRow

-- what there is of an object that isn't there
abbrev pub no_contents : Contents
no_contents = record { columns = []; rows = [] }

-- a row's values in the wanted columns, in their order
abbrev pub cut_to : Columns → Columns → Values → Values
cut_to columns wanted values = map (value_of columns values) wanted

-- a table's row
abbrev pub of_table : RowRecord → StampedRow
of_table r = record { stamp = r.stamp; values = r.row }

-- the base's rows that meet a view's conditions, cut to its columns
abbrev pub narrowed : Columns → List Condition → Contents → List StampedRow
narrowed columns conditions base =
    map (λ (r : StampedRow). record r { values = cut_to base.columns columns r.values }) (filter (λ (r : StampedRow). matches base.columns conditions r.values) base.rows)

-- the rows of an object, by the contents of those on which it may rest
abbrev pub rows_in : (ℕ → Contents) → Database → Object → ObjectKind → List StampedRow
rows_in contents db o (Table columns) = map of_table (rows_of o.stamp db.rows)
rows_in contents db o (View base columns conditions) = narrowed columns conditions (contents base)
rows_in contents db o (Dictionary subject) = rows_told db o.owner subject

abbrev pub contents_in : (ℕ → Contents) → Database → Option Object → Contents
contents_in contents db None = no_contents
contents_in contents db (Some o) = record { columns = columns_of o.kind; rows = rows_in contents db o o.kind }

-- the contents of the object of a stamp, from at most so many objects over one another
abbrev pub contents_below : ℕ → Database → ℕ → Contents
contents_below zero db stamp = no_contents
contents_below (suc n) db stamp = contents_in (contents_below n db) db (object_stamped db.objects stamp)

-- the contents of the object of a stamp
unfoldable pub contents_of : Database → ℕ → Contents
contents_of db stamp = contents_below (deepest + 1) db stamp
