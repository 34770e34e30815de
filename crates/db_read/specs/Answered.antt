-- What the answers of reading operations mean: the word, the cursor and the row as a move of the model; and what a cursor chooses.
use Rattle.std.specs.Prelude.{◌≡◌, ℕ, ◌*◌, ◌==◌, Bool, true, List, [], Option, Some, Result, Ok, Err, if◌then◌else◌}
use Rattle.scql_base.specs.Words.{done, not_found, security_not_satisfied}
use Rattle.scql_base.specs.declared.words.Actor.{Actor}
use Rattle.scql_base.specs.declared.cursor.Cursor.{Cursor}
use Rattle.scql_base.specs.declared.records.Object.{Object}
use Rattle.scql_base.specs.declared.words.StatusWord.{StatusWord}
use Rattle.scql_model.specs.Database.{Database}
use Rattle.scql_model.specs.Machine.{Reading}
use Rattle.cursor.specs.Costs.{Cost, cost_where}
use Rattle.scql_model.specs.Moves as moves
use Rattle.scql_model.specs.Refusals.{◌>>=◌, or_refused, provided}
use Rattle.scql_model.specs.Rights.{holds, select_privilege}
use Rattle.scql_model.specs.Matching.{Values}
use Rattle.scql_model.specs.Objects.{StampedRow}
use Rattle.scql_model.specs.ReadBound.{IsOnTableOrView, row_cells}
use Rattle.scql_model.specs.ReadingCommands.{Move, cut, row_octets}
use Rattle.scql_model.specs.Replies.{said}
use Rattle.record_table.specs.declared.stop.Stop.{Stop}
use Rattle.record_table.specs.declared.stop.Stop.TheVariants.{Refused, Fault}
use Rattle.cursor.specs.Moved.{AreStamped, refuses}
pub use Rattle.scql_model.specs.Moves.{rows_under}

-- a word alone, and the cursor after it
abbrev pub answered : StatusWord → Option Cursor → Result (Move Reading) StatusWord
answered word cursor = if refuses word then Err word else Ok (record { reply = said word; after = record { cursor = cursor; pending = [] } })

-- a word with a row, which is given as far as Le allows
abbrev pub given : ℕ → StatusWord → Option Cursor → Values → Result (Move Reading) StatusWord
given le word cursor values =
    if word.word == done.word then Ok (record { reply = (cut (row_octets values) le).reply; after = record { cursor = cursor; pending = (cut (row_octets values) le).rest } })
    else answered word cursor

-- a stop by a refusal is that of the model
abbrev pub Stops : {T : Type 0} → Result T StatusWord → Stop → Type 0
Stops {T} outcome (Refused word) = (outcome ≡ Err word) × (refuses word ≡ true)
Stops {T} outcome Fault = Unit {0}

-- an object that appears, where the actor may select from it
abbrev pub selectable : Database → Actor → Option Object → Result Object StatusWord
selectable db actor seen = do
  o ← or_refused seen not_found
  _ ← provided (holds db actor o select_privilege) security_not_satisfied
  Ok o

-- what is said of a part of an operation, unless the EEPROM failed in it
abbrev pub WhereStopped : Stop → Type 0 → Type 0
WhereStopped (Refused word) said = said
WhereStopped Fault said = Unit {0}

abbrev pub WhereRead : {T : Type 0} → Result T Stop → Type 0 → Type 0
WhereRead {T} (Ok x) said = said
WhereRead {T} (Err stop) said = WhereStopped stop said

-- what is told of reading the rows of the table under an object: for stamps that pass a test 32 octets for each cell of the rows there
pub record AreCostsOf (db : Database) (object : ℕ) (costs : Option (List Cost)) : Type 0 where
  pub list : List Cost
  pub told : costs ≡ Some list
  pub cells : (passes : ℕ → Bool) → cost_where passes list ≡ 32 * row_cells db object passes

-- the rows under a cursor are those that are told, and so is what reading those of a table or a view costs
pub record Chooses (db : Database) (actor : Actor) (c : Cursor) (tells : List StampedRow → Type 0) (costs : Option (List Cost)) : Type 0 where
  pub rows : List StampedRow
  pub under : moves.rows_under db actor c ≡ Ok rows
  pub told : tells rows
  pub stamped : AreStamped rows
  pub costs_are : IsOnTableOrView db c → AreCostsOf db c.object costs
