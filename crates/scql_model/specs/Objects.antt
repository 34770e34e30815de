-- What an object shows, which is rows under columns, and how deep it stands over a table.
use Rattle.std.specs.Prelude.{ℕ, zero, suc, ◌+◌, ◌==◌, List, [], ◌∷◌, Option, Some, None, option_map, option_and_then, codes}
use Rattle.std.specs.List.{find}
use Rattle.scql_base.specs.declared.words.Subject.{Subject}
use Rattle.scql_base.specs.declared.words.Subject.TheVariants.{Objects, Users, Grants}
use Rattle.scql_base.specs.declared.records.Object.{Object}
use Rattle.scql_base.specs.declared.records.ObjectKind.{ObjectKind}
use Rattle.scql_base.specs.declared.records.ObjectKind.TheVariants.{Table, View, Dictionary}
use Rattle.scql_model.specs.Matching.{Columns, Values}

-- a row of an object, with the stamp of the record from which it comes
pub record StampedRow : Type 0 where
  pub stamp : ℕ
  pub values : Values

-- the columns of a dictionary
abbrev pub dictionary_columns : Subject → Columns
dictionary_columns Objects = codes "NAME" ∷ codes "KIND" ∷ codes "OWNER" ∷ codes "BASE" ∷ codes "COLS" ∷ []
dictionary_columns Users = codes "NAME" ∷ codes "PROFILE" ∷ codes "OWNER" ∷ []
dictionary_columns Grants = codes "OBJECT" ∷ codes "GRANTEE" ∷ codes "PRIV" ∷ []

-- the columns of an object, in their order; a view has its own written out
abbrev pub columns_of : ObjectKind → Columns
columns_of (Table columns) = columns
columns_of (View base columns conditions) = columns
columns_of (Dictionary subject) = dictionary_columns subject

-- the object of a stamp
abbrev pub object_stamped : List Object → ℕ → Option Object
object_stamped objects stamp = find (λ (o : Object). o.stamp == stamp) objects

-- a table stands at depth 0, and a view one deeper than its base; nothing rests on a dictionary
abbrev pub depth_over : (ℕ → Option ℕ) → ObjectKind → Option ℕ
depth_over depth (Table columns) = Some 0
depth_over depth (View base columns conditions) = option_map suc (depth base)
depth_over depth (Dictionary subject) = None

-- the depth of the object of a stamp, where that is below a number
abbrev pub depth_below : ℕ → List Object → ℕ → Option ℕ
depth_below zero objects stamp = None
depth_below (suc n) objects stamp = option_and_then (λ (o : Object). depth_over (depth_below n objects) o.kind) (object_stamped objects stamp)

-- a view stands at most so deep
abbrev pub deepest : ℕ
deepest = 4

-- the depth of the object of a stamp, which is at most that of the deepest view
unfoldable pub depth_of : List Object → ℕ → Option ℕ
depth_of objects stamp = depth_below (deepest + 1) objects stamp
