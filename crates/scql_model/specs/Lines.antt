-- Lines of input, what they do, and what a run prints to them.
use Rattle.std.specs.Prelude.{ℕ, ◌==◌, nat_lt, not, ◌&&◌, ◌||◌, ◌/◌, ◌%◌, Bool, List, [], ◌∷◌, ◌++◌, length, filter, Option, Some, None, Result, Ok, Err, if◌then◌else◌, codes}
use Rattle.std.specs.List.{slice_split, concat}
use Rattle.std.specs.Str.{bytes_eq}
use Rattle.hex.specs.Hex.{decode_of, encode_upper}
use Rattle.scql_model.specs.Database.{Database}
use Rattle.scql_model.specs.Machine.{Machine, reset}
use Rattle.scql_model.specs.Replies.{Reply}
use Rattle.scql_model.specs.Step.{step}

-- Input is cut at each line feed. What stands behind the last one is a line where the input has ended and it has an octet.
abbrev pub is_line_feed : ℕ → Bool
is_line_feed octet = octet == 0x0A

abbrev pub without_open_end : Bool → List (List ℕ) → List (List ℕ)
without_open_end ended [] = []
without_open_end ended (piece ∷ []) = if ended && not (length piece == 0) then piece ∷ [] else []
without_open_end ended (piece ∷ other ∷ pieces) = piece ∷ without_open_end ended (other ∷ pieces)

abbrev pub lines : List ℕ → Bool → List (List ℕ)
lines octets ended = without_open_end ended (slice_split is_line_feed octets)

-- A line as it is taken: its octets, or none where there are more than a line may have.
abbrev pub longest_line : ℕ
longest_line = 1000

abbrev pub taken_line : List ℕ → Option (List ℕ)
taken_line line = if nat_lt longest_line (length line) then None else Some line

-- What a line does: its text, with its line feed; the state after it; the databases that it commits in turn; and the texts of which it has one where the card fails in it.
pub record Effect (S : Type 0) : Type 0 where
  pub text : List ℕ
  pub next : S
  pub commits : List Database
  pub faulty : List (List ℕ)

-- A language of lines: at which machine the card is in a state, and what a line does there.
pub record Language (S : Type 0) : Type 0 where
  pub machine : S → Machine
  pub effect : S → Option (List ℕ) → Effect S

abbrev pub line_effect : {S : Type 0} → Language S → S → List ℕ → Effect S
line_effect language state line = language.effect state (taken_line line)

unfoldable pub line_text : {S : Type 0} → Language S → S → List ℕ → List ℕ
line_text language state line = (line_effect language state line).text

unfoldable pub line_step : {S : Type 0} → Language S → S → List ℕ → S
line_step language state line = (line_effect language state line).next

-- The texts of lines, one after the other, and the state after them.
abbrev pub texts : {S : Type 0} → Language S → S → List (List ℕ) → List (List ℕ)
texts language state [] = []
texts language state (line ∷ lines) = line_text language state line ∷ texts language (line_step language state line) lines

abbrev pub run_text : {S : Type 0} → Language S → S → List (List ℕ) → List ℕ
run_text language state lines = concat (texts language state lines)

abbrev pub state_after : {S : Type 0} → Language S → S → List (List ℕ) → S
state_after language state [] = state
state_after language state (line ∷ lines) = state_after language (line_step language state line) lines

-- A command as a line: spaces, tabs and carriage returns are taken out first, and then it is nothing, a note, `reset` or hexadecimal digits.
pub data LineContent : Type 0 where
  too_long : LineContent
  nothing : LineContent
  resets : LineContent
  not_hexadecimal : LineContent
  command : (octets : List ℕ) → LineContent

abbrev pub is_blank : ℕ → Bool
is_blank octet = octet == 0x20 || octet == 0x09 || octet == 0x0D

abbrev pub without_blanks : List ℕ → List ℕ
without_blanks line = filter (λ octet. not (is_blank octet)) line

abbrev pub hexadecimal_in : {E : Type 0} → Result (List ℕ) E → LineContent
hexadecimal_in (Ok octets) = command octets
hexadecimal_in (Err e) = not_hexadecimal

abbrev pub content_without_blanks : List ℕ → LineContent
content_without_blanks [] = nothing
content_without_blanks (first ∷ rest) =
    if first == 0x23 then nothing
    else if bytes_eq (first ∷ rest) (codes "reset") then resets
    else hexadecimal_in (decode_of (first ∷ rest))

abbrev pub content_of : Option (List ℕ) → LineContent
content_of None = too_long
content_of (Some line) = content_without_blanks (without_blanks line)

-- what a card says of a command: a reply, or that it failed
abbrev pub reply_octets : Reply → List ℕ
reply_octets reply = reply.body ++ (reply.word.word / 256) ∷ (reply.word.word % 256) ∷ []

abbrev pub reply_text : Reply → List ℕ
reply_text reply = encode_upper (reply_octets reply) ++ codes "\n"

abbrev pub mute_text : List ℕ
mute_text = codes "6581\n"

-- a line that isn't a command has a text, and asks the card for nothing
abbrev pub noted : Machine → List ℕ → Effect Machine
noted m text = record { text = text; next = m; commits = []; faulty = [] }

abbrev pub content_effect : Machine → LineContent → Effect Machine
content_effect m too_long = noted m (codes "line too long\n")
content_effect m nothing = noted m []
content_effect m resets = noted (reset m) (codes "reset\n")
content_effect m not_hexadecimal = noted m (codes "not hexadecimal\n")
content_effect m (command octets) = record { text = reply_text (step m octets).reply; next = (step m octets).machine; commits = (step m octets).commits; faulty = mute_text ∷ [] }

-- the language of commands, whose states are the machine's
abbrev pub command_lines : Language Machine
command_lines = record { machine = λ m. m; effect = λ m line. content_effect m (content_of line) }
