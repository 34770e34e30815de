-- What the calls that change a valid database make of it.
use Rattle.std.specs.Prelude.{◌≡◌, ℕ, Option, IfSome, Result}
use Rattle.scql_base.specs.declared.cursor.Cursor.{Cursor}
use Rattle.scql_base.specs.declared.operation.Operation.{Operation}
use Rattle.scql_base.specs.declared.words.Actor.{Actor}
use Rattle.scql_base.specs.declared.words.StatusWord.{StatusWord}
use Rattle.scql_model.specs.Changing.{change_of}
use Rattle.scql_model.specs.Creating.{IsActorOf}
use Rattle.scql_model.specs.Cursors.{IsCursorOf}
use Rattle.scql_model.specs.Database.{Database, IsValid, user_stamped}
use Rattle.scql_model.specs.Step.{with_tries}
use Rattle.scql_model.specs.WellFormed.{FitsCard, HasForm}
use Rattle.plain_database.specs.Effects.{EndsAsMeant}

-- A database that a changing command may change, and the cursor of a session over it, where there is one.
pub record MayChange (db : Database) (at : Option Cursor) : Type 0 where
  pub valid : IsValid db
  pub cursor : IfSome at (IsCursorOf db)

-- A changing command was carried out or refused.
pub record IsCarriedOut (db new : Database) (actor : Actor) (cursor : Option Cursor) (operation : Operation) (result : Result (Unit {0}) StatusWord) : Type 0 where
  -- it ended as the model's does
  pub ends : EndsAsMeant db new result (change_of db actor cursor operation)
  -- on the same card
  pub cells : new.cells ≡ db.cells
  -- and left a valid database, where the command has its form and fits the card
  pub valid : IsActorOf db actor → HasForm operation → FitsCard db.limit operation → IsValid new

-- The user of a stamp was given so many tries.
pub record SetsTries (db new : Database) (stamp count : ℕ) : Type 0 where
  pub tries : IfSome (user_stamped db.users stamp) (λ u. new ≡ with_tries db u count)
  -- on the same card
  pub cells : new.cells ≡ db.cells
