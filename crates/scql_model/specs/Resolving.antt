-- A view down to its table: its rows are those of the table that pass the conditions of each view between, cut once.
use Rattle.std.specs.Prelude.{◌≡◌, ℕ, zero, suc, ◌+◌, ◌&&◌, Bool, true, List, [], ◌∷◌, map, filter, Option, Some, None, option_map, option_and_then}
use Rattle.std.specs.List.{list_all}
use Rattle.std.specs.Option.{option_map_or}
use Rattle.scql_base.specs.declared.condition.Condition.{Condition}
use Rattle.scql_base.specs.declared.records.Object.{Object}
use Rattle.scql_base.specs.declared.records.ObjectKind.{ObjectKind}
use Rattle.scql_base.specs.declared.records.ObjectKind.TheVariants.{Table, View, Dictionary}
use Rattle.scql_model.specs.Database.{Database, are_among, are_named_among, object_stamped, rows_of}
use Rattle.scql_model.specs.Matching.{Columns, Values, matches}
use Rattle.scql_model.specs.Objects.{StampedRow, columns_of, deepest}
use Rattle.scql_model.specs.Contents.{Contents, cut_to, of_table, narrowed}

-- a table by its stamp, all its columns, those of them that are shown, and the conditions of each view over it, the outermost first
pub record Resolved : Type 0 where
  pub table : ℕ
  pub all : Columns
  pub columns : Columns
  pub filters : List (List Condition)

-- conditions are on columns that are among all
abbrev pub AreKnown : Columns → List Condition → Bool
AreKnown all conditions = are_among (map (λ (c : Condition). c.column) conditions) all

-- a view is resolved as its base is, with its own columns and one filter more
abbrev pub resolved_over : (ℕ → Option Resolved) → Object → ObjectKind → Option Resolved
resolved_over resolved o (Table columns) = Some (record { table = o.stamp; all = columns; columns = columns; filters = [] })
resolved_over resolved o (View base columns conditions) = option_map (λ (r : Resolved). record r { columns = columns; filters = conditions ∷ r.filters }) (resolved base)
resolved_over resolved o (Dictionary subject) = None

-- the table or view of a stamp, resolved, from at most so many objects over one another
abbrev pub resolved_below : ℕ → List Object → ℕ → Option Resolved
resolved_below zero objects stamp = None
resolved_below (suc n) objects stamp = option_and_then (λ (o : Object). resolved_over (resolved_below n objects) o o.kind) (object_stamped objects stamp)

unfoldable pub resolved_of : List Object → ℕ → Option Resolved
resolved_of objects stamp = resolved_below (deepest + 1) objects stamp

-- a row of the table passes each filter
abbrev pub passes_filters : Resolved → Values → Bool
passes_filters r values = list_all (λ (conditions : List Condition). matches r.all conditions values) r.filters

-- the rows of a table, as they are shown
abbrev pub rows_of_table : Database → ℕ → List StampedRow
rows_of_table db table = map of_table (rows_of table db.rows)

-- the rows of the table that meet conditions and pass each filter, cut to some columns
abbrev pub rows_through : Database → Resolved → Columns → List Condition → List StampedRow
rows_through db r wanted conditions =
    map (λ (x : StampedRow). record x { values = cut_to r.all wanted x.values })
    (filter (λ (x : StampedRow). matches r.all conditions x.values && passes_filters r x.values) (rows_of_table db r.table))

-- contents are seen through what is resolved: whatever columns and conditions are asked of them, their rows are those of the table that pass all filters and the conditions, cut once
pub record IsSeenThrough (db : Database) (contents : Contents) (r : Resolved) : Type 0 where
  pub columns : contents.columns ≡ r.columns
  pub within : are_among r.columns r.all ≡ true
  pub rows : (wanted : Columns) (conditions : List Condition) → are_named_among r.columns wanted conditions ≡ true → narrowed wanted conditions contents ≡ rows_through db r wanted conditions

-- a view and its conditions name columns of its base
abbrev pub names_its_base : List Object → Object → Bool
names_its_base objects o = names o.kind
  where
    names : ObjectKind → Bool
    names (Table columns) = true
    names (View base columns conditions) = option_map_or (λ (b : Object). are_named_among (columns_of b.kind) columns conditions) (object_stamped objects base) true
    names (Dictionary subject) = true
