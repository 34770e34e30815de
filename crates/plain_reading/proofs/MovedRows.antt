-- FETCH and FETCH NEXT give the row that was found.
use Rattle.std.proofs.Common.{◌≡◌, ℕ, Some, Ok, refl, sym}
use Rattle.scql_base.specs.declared.cursor.Cursor.{Cursor}
use Rattle.scql_base.specs.declared.cursor.Place.TheVariants.{At}
use Rattle.scql_base.specs.declared.words.Actor.{Actor}
use Rattle.scql_model.specs.Contents.{contents_of}
use Rattle.scql_model.specs.Database.{Database}
use Rattle.scql_model.specs.Machine.{Reading}
use Rattle.scql_model.specs.Moves.{chosen, moved, opened, row_at, row_behind, rows_under}
use Rattle.scql_model.specs.Objects.{StampedRow}
use Rattle.scql_model.specs.ReadingCommands.{fetch, fetch_next}
use Rattle.plain_reading.specs.Outcomes.{given}

module _ (db : Database) (actor : Actor) (before : Reading) (c : Cursor) (le : ℕ) (r : StampedRow) (is : opened before.cursor ≡ Ok c) (rows : rows_under db actor c ≡ Ok (chosen (contents_of db c.object) c)) where
  pub fetched : (stamp : ℕ) → c.place ≡ At stamp → Some r ≡ row_at stamp (chosen (contents_of db c.object) c) → moved db actor before (fetch le) ≡ given (At stamp) c le r.values
  fetched stamp at found = rw (is, rows, at, sym found) refl

  pub fetched-next : Some r ≡ row_behind c.place (chosen (contents_of db c.object) c) → moved db actor before (fetch_next le) ≡ given (At r.stamp) c le r.values
  fetched-next found = rw (is, rows, sym found) refl
