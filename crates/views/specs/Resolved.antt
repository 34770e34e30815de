-- What it means that a table or a view is resolved.
use Rattle.std.specs.Prelude.{◌≡◌, ℕ, List, Some, map, position}
use Rattle.std.specs.List.{AllZip}
use Rattle.std.specs.Str.{bytes_eq}
use Rattle.scql_base.specs.declared.condition.Condition.{Condition}
use Rattle.scql_base.specs.declared.records.Object.{Object}
use Rattle.scql_model.specs.Matching.{Columns}
use Rattle.scql_model.specs.Resolving as model
use Rattle.scql_model.specs.Resolving.{resolved_of}
use Rattle.search_cond.specs.Bound.{Binds}
use Rattle.search_cond.specs.declared.placed.Placed.{Placed}
use Rattle.views.specs.declared.resolving.Resolved.{Resolved}

-- the place of each column is that of the first of its name among all
abbrev pub ArePlaces : List ℕ → Columns → Columns → Type 0
ArePlaces places all columns = map Some places ≡ map (λ (column : List ℕ). position (bytes_eq column) all) columns

-- each of some lists of conditions is bound to all columns
abbrev pub AreBound : List (List Placed) → Columns → List (List Condition) → Type 0
AreBound filters all conditions = AllZip (λ (bound : List Placed) (conditions : List Condition). Binds bound all conditions) filters conditions

-- the table of what is resolved is reached: it is the same with all its columns, to which each view's conditions are bound
pub record Reaches (answer : Resolved) (r : model.Resolved) : Type 0 where
  pub table : answer.table ≡ r.table
  pub all : answer.all ≡ r.all
  pub filters : AreBound answer.filters.items r.all r.filters

-- what is answered stands for a table or a view that is resolved: the table is the same with all its columns, the same columns are shown, each from its place,
-- and each view's conditions are bound to the table's columns
pub record StandsFor (answer : Resolved) (r : model.Resolved) : Type 0 where
  pub table : answer.table ≡ r.table
  pub all : answer.all ≡ r.all
  pub columns : answer.columns ≡ r.columns
  pub places : ArePlaces answer.places.items r.all r.columns
  pub filters : AreBound answer.filters.items r.all r.filters

-- the object of a stamp is a table or a view over one, for which the answer stands
pub record Resolves (objects : List Object) (stamp : ℕ) (answer : Resolved) : Type 0 where
  pub is : model.Resolved
  pub resolved : resolved_of objects stamp ≡ Some is
  pub stands : StandsFor answer is
