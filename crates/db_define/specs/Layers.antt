-- On what a view may rest: which object it is, and how many views are between it and a table.
use Rattle.std.specs.Prelude.{◌≡◌, ℕ, zero, suc, Bool, true, false, List, Option, Some, None, Ok}
use Rattle.scql_base.specs.declared.words.Actor.{Actor}
use Rattle.scql_base.specs.declared.records.Object.{Object}
use Rattle.scql_base.specs.declared.records.ObjectKind.{ObjectKind}
use Rattle.scql_base.specs.declared.records.ObjectKind.TheVariants as kinds
use Rattle.scql_model.specs.Database.{Database, object_stamped}
use Rattle.scql_model.specs.Defining.{is_table_or_view, of_kind, owned_by}
use Rattle.scql_model.specs.Objects.{columns_of}
use Rattle.scql_model.specs.Rights.{seen_named}
use Rattle.db_define.specs.declared.base.Base.{Base}
use Rattle.db_define.specs.declared.base.Layer.{Layer}
use Rattle.db_define.specs.declared.base.Layer.TheVariants.{Table, View, Other}

abbrev pub layer_of : ObjectKind → Layer
layer_of (kinds.Table columns) = Table
layer_of (kinds.View base columns conditions) = View base
layer_of (kinds.Dictionary subject) = Other

abbrev pub layer_found : Option Object → Layer
layer_found None = Other
layer_found (Some o) = layer_of o.kind

-- the layer under a view is its base
abbrev pub layer_under : List Object → Layer → Layer
layer_under objects Table = Table
layer_under objects (View base) = layer_found (object_stamped objects base)
layer_under objects Other = Other

-- at most so many layers under it is a table
abbrev pub reaches_table : ℕ → List Object → Layer → Bool
reaches_table zero objects layer = is_at_table layer
  where
    is_at_table : Layer → Bool
    is_at_table Table = true
    is_at_table (View base) = false
    is_at_table Other = false
reaches_table (suc n) objects layer = reaches_table n objects (layer_under objects layer)

-- This is the table or the view of a name that the actor sees and owns.
pub record IsBase (db : Database) (actor : Actor) (name : List ℕ) (base : Base) : Type 0 where
  pub object : Object
  pub owned : owned_by actor (of_kind is_table_or_view (seen_named db actor name)) ≡ Ok object
  pub there : object_stamped db.objects object.stamp ≡ Some object
  pub stamp : base.stamp ≡ object.stamp
  pub columns : base.columns ≡ columns_of object.kind
  pub layer : base.layer ≡ layer_of object.kind
