-- What becomes of a database by an operation.
use Rattle.std.specs.Prelude.{ℕ, ◌+◌, ◌==◌, ◌&&◌, nat_le, not, Bool, ◌≡◌, Result, Ok, Err, OnErr, OnOk}
use Rattle.scql_base.specs.declared.words.StatusWord.{StatusWord}
use Rattle.scql_model.specs.Database.{Database, weight}
use Rattle.scql_model.specs.Edits.{stamps_end}

-- a stamp is left, and room for a record that takes so many cells
abbrev pub has_room : Database → ℕ → Bool
has_room db cells = not (db.next == stamps_end) && nat_le (weight db + cells) db.cells

-- something, or the word that an operation was refused with
abbrev pub ended : {A : Type 0} → Result (Unit {0}) StatusWord → A → Result A StatusWord
ended (Ok done) x = Ok x
ended (Err word) x = Err word

-- How a call ended that wants memory.
pub record Puts {A E : Type 0} (old new : A) (result : Result (Unit {0}) E) (meant : A) : Type 0 where
  -- it made what is meant
  pub put : OnOk result (new ≡ meant)
  -- where memory is wanting, all is as it was
  pub same : OnErr result (new ≡ old)

-- How an operation ended: with what it was to make, or refused.
pub record EndsAsMeant {A : Type 0} (old new : A) (result : Result (Unit {0}) StatusWord) (meant : Result A StatusWord) : Type 0 where
  -- it made what is meant, or was refused with the word that is meant
  pub ended : ended result new ≡ meant
  -- where it was refused, what it works on is as it was
  pub same : OnErr result (new ≡ old)
