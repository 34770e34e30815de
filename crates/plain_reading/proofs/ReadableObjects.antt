-- What an actor may read of an object, and the columns that a cursor may name.
use Rattle.std.proofs.Common.{◌≡◌, ℕ, true, false, List, Some, Ok, Err, refl, ap}
use Rattle.std.specs.Prelude.{◌==◌, ◌&&◌}
use Rattle.std.specs.Str.{bytes_eq}
use Rattle.std.proofs.lemmas.Bool.{and_parts, eqb-true}
use Rattle.scql_base.specs.Words.{done, not_found}
use Rattle.scql_base.specs.declared.condition.Condition.{Condition}
use Rattle.scql_base.specs.declared.cursor.Cursor.{Cursor}
use Rattle.scql_base.specs.declared.cursor.Place.TheVariants.{NotOpen}
use Rattle.scql_base.specs.declared.records.Object.{Object}
use Rattle.scql_base.specs.declared.words.Actor.{Actor}
use Rattle.scql_model.specs.Contents.{contents_of}
use Rattle.scql_model.specs.Database.{Database, IsValid, are_named_among, object_stamped}
use Rattle.scql_model.specs.Machine.{Reading}
use Rattle.scql_model.specs.Matching.{Columns}
use Rattle.scql_model.specs.Moves.{chosen, moved, moved_to, rows_under}
use Rattle.scql_model.specs.Objects.{columns_of}
use Rattle.scql_model.specs.ReadingCommands.{declare, wanted_of}
use Rattle.scql_model.specs.Rights.{appears, holds, select_privilege, seen_named, seen_stamped}
use Rattle.scql_model.proofs.LongerLists.{find-passes}
use Rattle.plain_database.proofs.SoughtRows.{found-among}

-- the rows of a cursor's object, from which the actor may select
pub readable-rows : (db : Database) (actor : Actor) (c : Cursor) (o : Object) → seen_stamped db actor c.object ≡ Some o → holds db actor o select_privilege ≡ true
    → rows_under db actor c ≡ Ok (chosen (contents_of db c.object) c)
readable-rows db actor c o seen may =
    let same : o.stamp ≡ c.object = eqb-true o.stamp c.object (and_parts (o.stamp == c.object) (appears db actor o) (find-passes (λ (p : Object). p.stamp == c.object && appears db actor p) db.objects o seen)).0 in
    rw (seen, may) (ap (λ (stamp : ℕ). Ok (chosen (contents_of db stamp) c)) same)

-- an object that appears by its name contains its own columns
contents-columns : (db : Database) (stamp : ℕ) (o : Object) → object_stamped db.objects stamp ≡ Some o → (contents_of db stamp).columns ≡ columns_of o.kind
unfolding contents_of
contents-columns db stamp o at = rw at refl

named-columns : (db : Database) (actor : Actor) (name : List ℕ) (o : Object) → IsValid db → seen_named db actor name ≡ Some o → (contents_of db o.stamp).columns ≡ columns_of o.kind
named-columns db actor name o valid seen =
    let there = rw seen at (found-among (λ (p : Object). p.stamp) (λ (p : Object). bytes_eq name p.name && appears db actor p) db.objects valid.objects.rises) in
    contents-columns db o.stamp o there

-- A cursor names columns of its object, or is refused.
module _ (db : Database) (actor : Actor) (before : Reading) (name : List ℕ) (columns : Columns) (conditions : List Condition) (o : Object) (valid : IsValid db) (seen : seen_named db actor name ≡ Some o) (may : holds db actor o select_privilege ≡ true) where
  pub declares-unnamed : are_named_among (columns_of o.kind) columns conditions ≡ false → moved db actor before (declare name columns conditions) ≡ Err not_found
  declares-unnamed unnamed = rw (seen, may, named-columns db actor name o valid seen, unnamed) refl

  pub declares-named : are_named_among (columns_of o.kind) columns conditions ≡ true
      → moved db actor before (declare name columns conditions) ≡ Ok (moved_to NotOpen (record { object = o.stamp; columns = wanted_of (columns_of o.kind) columns; conditions = conditions; place = NotOpen }) done)
  declares-named named = rw (seen, may, named-columns db actor name o valid seen, named) refl
