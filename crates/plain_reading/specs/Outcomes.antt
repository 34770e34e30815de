-- How a command ended.
use Rattle.std.specs.Prelude.{◌≡◌, ℕ, Result, Ok, OnErr}
use Rattle.scql_base.specs.declared.cursor.Cursor.{Cursor}
use Rattle.scql_base.specs.declared.cursor.Place.{Place}
use Rattle.scql_base.specs.declared.words.StatusWord.{StatusWord}
use Rattle.scql_model.specs.Machine.{Reading}
use Rattle.scql_model.specs.Matching.{Values}
use Rattle.scql_model.specs.Moves.{giving}
use Rattle.scql_model.specs.ReadingCommands.{Move, fitting, row_octets}
use Rattle.scql_model.specs.Refusals.{◌>>=◌}
use Rattle.scql_model.specs.Replies.{Reply}
use Rattle.plain_database.specs.Effects.{ended}

-- How a command ended: answered, or refused.
pub record AnswersAsMeant {A : Type 0} (old new : A) (reply : Reply) (result : Result (Unit {0}) StatusWord) (meant : Result (Move A) StatusWord) : Type 0 where
  -- it gave the reply that is meant and left what is meant, or was refused with the word that is meant
  pub answered : (let move : Move A = record { reply = reply; after = new } in ended result move) ≡ meant
  -- where it was refused, what it works on is as it was
  pub same : OnErr result (new ≡ old)

-- a row is given at a place, where Le allows it
abbrev pub given : Place → Cursor → ℕ → Values → Result (Move Reading) StatusWord
given place c le values = do
  octets ← fitting le (row_octets values)
  Ok (giving place c le octets)
