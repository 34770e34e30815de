-- How many cells the records have that are read to find on which table an object rests.
use Rattle.std.specs.Prelude.{ℕ, zero, suc, ◌+◌, ◌==◌, List}
use Rattle.std.specs.Option.{option_map_or}
use Rattle.scql_base.specs.declared.records.Object.{Object}
use Rattle.scql_base.specs.declared.records.ObjectKind.{ObjectKind}
use Rattle.scql_base.specs.declared.records.ObjectKind.TheVariants.{Table, View, Dictionary}
use Rattle.scql_model.specs.Edits.{cells_of_record, of_object}
use Rattle.scql_model.specs.Objects.{deepest, object_stamped}
use Rattle.record_table.specs.Tagged.{cells_where}

-- the cells of the object of a stamp
abbrev pub object_cells : List Object → ℕ → ℕ
object_cells objects stamp = cells_where (λ (o : Object). cells_of_record (of_object o)) (λ (o : Object). o.stamp == stamp) objects

-- of the base of a view, and of no other object's
abbrev pub cells_of_base : (ℕ → ℕ) → ObjectKind → ℕ
cells_of_base below (Table columns) = 0
cells_of_base below (View base columns conditions) = below base
cells_of_base below (Dictionary subject) = 0

-- of the object of a stamp and of those under it, of at most so many over one another
abbrev pub cells_below : ℕ → List Object → ℕ → ℕ
cells_below zero objects stamp = 0
cells_below (suc n) objects stamp = object_cells objects stamp + option_map_or (λ (o : Object). cells_of_base (cells_below n objects) o.kind) (object_stamped objects stamp) 0

-- of all under an object
abbrev pub cells_under : List Object → ObjectKind → ℕ
cells_under objects kind = cells_of_base (cells_below deepest objects) kind
