-- What the answers of a cursor's moves mean: the place, the word and the row as a move of the model.
use Rattle.std.specs.Prelude.{◌≡◌, ℕ, ◌==◌, nat_le, nat_lt, Bool, true, not, ◌||◌, if◌then◌else◌, List, length, Option, Some, None, option_map, Result, Ok, Err}
use Rattle.std.specs.List.{list_all}
use Rattle.scql_base.specs.Words.{done, end_reached, record_not_found, wrong_le}
use Rattle.scql_base.specs.declared.cursor.Cursor.{Cursor}
use Rattle.scql_base.specs.declared.cursor.Place.{Place}
use Rattle.scql_base.specs.declared.cursor.Place.TheVariants.{NotOpen, At, End}
use Rattle.scql_base.specs.declared.words.StatusWord.{StatusWord}
use Rattle.scql_model.specs.Machine.{Reading}
use Rattle.scql_model.specs.Matching.{Values}
use Rattle.scql_model.specs.Moves.{giving, moved_to}
use Rattle.scql_model.specs.Objects.{StampedRow}
use Rattle.scql_model.specs.ReadingCommands.{Move, row_octets}

-- each row has a stamp above 0, as all records have
abbrev pub AreStamped : List StampedRow → Type 0
AreStamped rows = list_all (λ (r : StampedRow). nat_lt 0 r.stamp) rows ≡ true

-- the place of the row of a stamp, and the end where there is none
abbrev pub place_at : Option ℕ → Place
place_at None = End
place_at (Some stamp) = At stamp

-- the word of a move to a place
abbrev pub word_at : Place → StatusWord
word_at NotOpen = end_reached
word_at (At stamp) = done
word_at End = end_reached

-- the values that are handed out, where there are any
abbrev pub handed : Bool → Values → Option Values
handed there values = if there then Some values else None

-- the row that is handed out with its stamp, where there is one
abbrev pub row_handed : Option ℕ → Values → Option StampedRow
row_handed stamp values = option_map (λ (stamp : ℕ). record { stamp = stamp; values = values }) stamp

-- a word that isn't 9000 or 6282 refuses a fetch
abbrev pub refuses : StatusWord → Bool
refuses word = not (word.word == done.word || word.word == end_reached.word)

-- the word for a row that is there or isn't, by Le
abbrev pub fetch_word : Bool → Values → ℕ → StatusWord
fetch_word there values le =
    if there then (if nat_le (length (row_octets values)) le || le == 256 then done else wrong_le (length (row_octets values)))
    else record_not_found

-- a word and a row that was handed out, as the move of a cursor that stands at a place then: with 9000 the row is given as far as Le allows
abbrev pub fetched : Place → Cursor → ℕ → StatusWord → Values → Result (Move Reading) StatusWord
fetched place c le word values =
    if word.word == done.word then Ok (giving place c le (row_octets values))
    else if word.word == end_reached.word then Ok (moved_to place c word)
    else Err word
