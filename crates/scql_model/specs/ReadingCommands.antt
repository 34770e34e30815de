-- The commands that read, and what is asked and answered by each of them alike (ISO/IEC 7816-7; for Le, 61XX and 6CXX ISO/IEC 7816-4).
use Rattle.std.specs.Prelude.{ℕ, ◌==◌, nat_le, ◌||◌, List, [], ◌∷◌, length, take, drop, Option, Some, None, option_map, Result, Ok, Err, if◌then◌else◌}
use Rattle.std.specs.List.{flat_map}
use Rattle.scql_base.specs.declared.words.StatusWord.{StatusWord}
use Rattle.scql_base.specs.declared.condition.Condition.{Condition}
use Rattle.scql_base.specs.declared.operation.Operation.{Operation}
use Rattle.scql_base.specs.declared.operation.Operation.TheVariants.{DeclareCursor, OpenCursor, Next, Fetch, FetchNext, GetResponse}
use Rattle.scql_base.specs.Strings.{spelled}
use Rattle.scql_base.specs.Words.{done, not_found, more_left, wrong_le}
use Rattle.scql_model.specs.Refusals.{provided}
use Rattle.scql_model.specs.Replies.{Reply, said}
use Rattle.scql_model.specs.Database.{are_named_among}
use Rattle.scql_model.specs.Matching.{Columns, Values}

-- the reading commands; Le is the greatest number of octets wanted, 1 to 256
pub data ReadingCommand : Type 0 where
  declare : (object : List ℕ) → (columns : Columns) → (conditions : List Condition) → ReadingCommand
  open_cursor : ReadingCommand
  next : ReadingCommand
  fetch : (le : ℕ) → ReadingCommand
  fetch_next : (le : ℕ) → ReadingCommand
  get_response : (le : ℕ) → ReadingCommand

-- the reading command that an operation is with its Le, if it is one; those that give octets always have an Le
abbrev pub reading_command : Operation → Option ℕ → Option ReadingCommand
reading_command (DeclareCursor object columns conditions) le = Some (declare object columns conditions)
reading_command OpenCursor le = Some open_cursor
reading_command Next le = Some next
reading_command Fetch le = option_map fetch le
reading_command FetchNext le = option_map fetch_next le
reading_command GetResponse le = option_map get_response le
reading_command operation le = None

-- the answer to a command, and what there is after it
pub record Move (S : Type 0) : Type 0 where
  pub reply : Reply
  pub after : S

-- a refusal leaves all as it was
abbrev pub or_stays : {S : Type 0} → S → Result (Move S) StatusWord → Move S
or_stays before (Ok move) = move
or_stays before (Err word) = record { reply = said word; after = before }

-- an answer as far as Le allows, and what is left of it
pub record Cut : Type 0 where
  pub reply : Reply
  pub rest : List ℕ

abbrev pub rest_word : List ℕ → StatusWord
rest_word [] = done
rest_word (octet ∷ octets) = more_left (length (octet ∷ octets))

abbrev pub cut : List ℕ → ℕ → Cut
cut octets le = record { reply = record { body = take le octets; word = rest_word (drop le octets) }; rest = drop le octets }

-- octets that Le allows as a whole; with Le 256 an answer may be longer, and is given in parts
abbrev pub fitting : ℕ → List ℕ → Result (List ℕ) StatusWord
fitting le octets = if nat_le (length octets) le || le == 256 then Ok octets else Err (wrong_le (length octets))

-- the named columns, or all where none is named
abbrev pub wanted_of : Columns → Columns → Columns
wanted_of columns [] = columns
wanted_of columns (name ∷ names) = name ∷ names

-- the named columns and those of the conditions are among an object's
abbrev pub named_among : Columns → Columns → List Condition → Result (Unit {0}) StatusWord
named_among columns named conditions = provided (are_named_among columns named conditions) not_found

-- a row in an answer: each value as its length in one octet and its octets
abbrev pub row_octets : Values → List ℕ
row_octets values = flat_map spelled values
