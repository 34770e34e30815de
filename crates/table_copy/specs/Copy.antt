-- A table that is copied: what the rows that one machine shows of an object make of a table of another machine.
use Rattle.std.specs.Prelude.{ℕ, not, List, [], ◌∷◌, length, nat_le, None, is_some, Result, Ok, Err}
use Rattle.scql_base.specs.declared.operation.Operation.TheVariants.{Insert}
use Rattle.scql_base.specs.declared.words.Actor.{Actor}
use Rattle.scql_base.specs.declared.words.StatusWord.{StatusWord}
use Rattle.scql_base.specs.Row.{row_size}
use Rattle.scql_base.specs.Words.{conditions_not_satisfied, wrong_data}
use Rattle.scql_model.specs.Changing.{change_of}
use Rattle.scql_model.specs.Database.{Database}
use Rattle.scql_model.specs.Machine.{Machine, actor}
use Rattle.scql_model.specs.Matching.{Values}
use Rattle.scql_model.specs.Refusals.{◌>>=◌, provided}
use Rattle.scql_model.specs.Shown.{shown_on}
use Rattle.planner.specs.Selecting.{select_shown}
use Rattle.table_copy.specs.declared.copy_end.CopyEnd.{CopyEnd}
use Rattle.table_copy.specs.declared.copy_end.CopyEnd.TheVariants.{Copied, SourceRefused, DestRefused}

-- A row is inserted, or there is the first refusal that applies. A row of more octets than the card's limit is refused.
abbrev pub row_copied : ℕ → Actor → List ℕ → Database → Values → Result Database StatusWord
row_copied limit actor table db row = do
  _ ← provided (nat_le (row_size row) limit) wrong_data
  change_of db actor None (Insert table row)

-- rows in their order, or the first refusal
abbrev pub rows_copied : ℕ → Actor → List ℕ → Database → List Values → Result Database StatusWord
rows_copied limit actor table db [] = Ok db
rows_copied limit actor table db (row ∷ rows) = do
  next ← row_copied limit actor table db row
  rows_copied limit actor table next rows

-- the database with all of the rows in the table, inserted for an actor
abbrev pub copy_of : Database → Actor → List ℕ → List Values → Result Database StatusWord
copy_of db actor table rows = rows_copied db.limit actor table db rows

-- The rows that a machine shows of an object on channel 0, with all of their columns, or the refusal of DECLARE.
unfoldable pub source_rows : Machine → List ℕ → Result (List Values) StatusWord
source_rows m object = do
  given ← select_shown (shown_on m 0) object [] []
  Ok given.rows

-- BEGIN, or its refusal where a transaction is open already
abbrev pub may_begin : Machine → Result (Unit {0}) StatusWord
may_begin m = provided (not (is_some m.transaction)) conditions_not_satisfied

-- how a copy ends between two cards that don't fail, and the databases that the destination commits
pub record Copy : Type 0 where
  pub ends : CopyEnd
  pub commits : List Database

-- the database is committed, or nothing is
abbrev pub ended_so : ℕ → Result Database StatusWord → Copy
ended_so count (Err word) = record { ends = DestRefused word; commits = [] }
ended_so count (Ok db) = record { ends = Copied count; commits = db ∷ [] }

abbrev pub put_into : Machine → List ℕ → Result (List Values) StatusWord → Copy
put_into d table (Err word) = record { ends = SourceRefused word; commits = [] }
put_into d table (Ok rows) = ended_so (length rows) (may_begin d >>= λ _. copy_of d.committed (actor d 0) table rows)

-- what one machine shows of an object is copied into a table of another one
unfoldable pub copy : Machine → Machine → List ℕ → List ℕ → Copy
copy s d object table = put_into d table (source_rows s object)
