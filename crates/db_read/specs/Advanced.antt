-- What it means that a cursor moved over its rows, and what such a motion answers.
use Rattle.std.specs.Prelude.{◌≡◌, ℕ, ◌*◌, IsTrue, List, Option, Result, Ok, IfOk, IfSome}
use Rattle.eeprom.specs.Chip.{Becomes, RisesAtMost}
use Rattle.scql_base.specs.declared.cursor.Cursor.{Cursor}
use Rattle.scql_base.specs.declared.cursor.Place.{Place}
use Rattle.scql_base.specs.declared.words.Actor.{Actor}
use Rattle.scql_base.specs.declared.words.StatusWord.{StatusWord}
use Rattle.scql_model.specs.Database.{Database}
use Rattle.scql_model.specs.Matching.{Values}
use Rattle.scql_model.specs.Moves as moves
use Rattle.scql_model.specs.Objects.{StampedRow}
use Rattle.scql_model.specs.ReadBound.{IsOnTableOrView, RisesAtLeast, row_cells}
use Rattle.cursor.specs.Costs.{RisesBetween}
use Rattle.cursor.specs.Moved.{AreStamped, refuses}
use Rattle.db_read.specs.Motion.{Goes, answer_of, command_of, is_on_way, least_by}
use Rattle.db_read.specs.Searched.{octets_for_operation}
use Rattle.db_read.specs.declared.motion.Motion.{Motion}

-- a cursor moved over the rows under it, and what was read by that is at most twice the cells of the rows that it passed and reached
pub record Advances (db : Database) (actor : Actor) (c : Cursor) (motion : Motion) (from to : Place) (word : StatusWord) (values : Values) (before after : Option ℕ) : Type 0 where
  pub rows : List StampedRow
  pub under : moves.rows_under db actor c ≡ Ok rows
  pub stamped : AreStamped rows
  pub goes : (on : Cursor) → Goes motion from to word values rows on
  pub reads : IsOnTableOrView db c → Becomes (RisesBetween (least_by motion word values) (64 * row_cells db c.object (is_on_way motion from rows))) before after

-- What the motion of a session's cursor answers over a database that has the cursor's object, and what it reads there.
pub record AnswersMotion {E : Type 0} (db : Database) (actor : Actor) (motion : Motion) (old new : Option Cursor) (values : Values) (before after : Option ℕ) (result : Result StatusWord E) : Type 0 where
  -- Word, cursor and row are those of the model's move, and a refusal leaves the cursor.
  pub moved : (pending : List ℕ) → IfOk result (λ word. moves.moved db actor (record { cursor = old; pending = pending }) (command_of motion) ≡ answer_of motion word new values)
  pub refused : IfOk result (λ word. IsTrue (refuses word) → new ≡ old)
  -- On a table or a view at most so many octets are read, and a row that is handed out was read.
  pub octets_read : IfSome old (IsOnTableOrView db) → IfOk result (λ _. Becomes (RisesAtMost (octets_for_operation db actor old (command_of motion))) before after)
  pub least : IfSome old (IsOnTableOrView db) → IfOk result (λ word. Becomes (RisesAtLeast (least_by motion word values)) before after)
