-- What is read of a command APDU before its data field, and what becomes of it with the data field.
use Rattle.std.specs.Prelude.{◌≡◌, ◌<◌, ◌≤◌, ℕ, Bool, true, List, length, Option, Some, Result, Ok, Err, IfOk, option_map, slice_get, if◌then◌else◌}
use Rattle.scql_base.specs.declared.words.StatusWord.{StatusWord}
use Rattle.scql_base.specs.declared.operation.Command.{Command}
use Rattle.scql_base.specs.declared.operation.OperationKind.{OperationKind}
use Rattle.scql_base.specs.Words.{wrong_data}
use Rattle.scql_model.specs.Machine.{Chain}
use Rattle.scql_model.specs.Refusals.{◌>>=◌, or_refused}
use Rattle.scql_model.specs.Operations.{operations, has_secrets}
use Rattle.scql_model.specs.Parameters.{operation_in}
use Rattle.scql_model.specs.Form as form
use Rattle.scql_model.specs.Form.{Form, is_chained, line_on, taken_in, data_in, parts_of, formed_on, part_in, command_in}
use Rattle.apdu.specs.declared.reading.Apdu.{Apdu}
use Rattle.apdu.specs.declared.reading.Refusal.{Refusal}
use Rattle.apdu.specs.declared.reading.Refusal.TheVariants.{Nowhere, On}
use Rattle.apdu.specs.declared.tail.Tail.{Tail}

-- a result, as what is seen of its value
abbrev pub seen : {A B : Type 0} → (A → B) → Result A StatusWord → Result B StatusWord
seen view (Ok x) = Ok (view x)
seen view (Err word) = Err word

abbrev pub tail_view : Tail → form.Tail
tail_view t = record { body = option_map (λ slice. slice.now) t.body; le = t.le }

-- what an APDU asks for on its channel
pub record Asked : Type 0 where
  pub channel : ℕ
  pub kind : OperationKind
  pub is_part : Bool
  pub body : List ℕ
  pub le : Option ℕ

abbrev pub apdu_view : Apdu → Asked
apdu_view a = record { channel = a.channel; kind = a.kind; is_part = a.is_part; body = a.body.now; le = a.le }

-- what octets with an instruction ask for on a channel
abbrev pub apdu_on : ℕ → ℕ → ℕ → ℕ → ℕ → List ℕ → Result Asked StatusWord
apdu_on channel cla ins p1 p2 after = do
  line ← line_on operations channel ins p1 p2
  tail ← taken_in line.takes (is_chained cla) after
  Ok (record { channel = channel; kind = line.kind; is_part = is_chained cla; body = data_in tail; le = tail.le })

-- an APDU's own data, behind the parts of its command so far
abbrev pub with_parts : Asked → List (List ℕ) → ℕ → Result Form StatusWord
with_parts a parts limit =
    let tail : form.Tail = record { body = Some a.body; le = a.le } in
    if a.is_part then part_in a.channel a.kind parts tail else command_in (has_secrets operations) a.channel a.kind limit parts tail

-- what is read of octets, from the APDU that they are, the chain of its channel and the limit of a row
abbrev pub completed : Result Apdu Refusal → (ℕ → Option Chain) → ℕ → Form
completed (Err (Nowhere word)) chain limit = form.refused word
completed (Err (On channel word)) chain limit = form.refused_on channel word
completed (Ok a) chain limit = formed_on a.channel (with_parts (apdu_view a) (parts_of a.kind (chain a.channel)) limit)

-- the command of an APDU's operation with a data field
abbrev pub command_of : Apdu → ℕ → List ℕ → Result Command StatusWord
command_of a limit body = do
  operation ← or_refused (operation_in (has_secrets operations) a.kind limit body) wrong_data
  Ok (record { channel = a.channel; operation = operation; le = a.le })

-- a refusal on a channel is on an open one of the channels 0 to 3
abbrev pub IsOnOpen : List Bool → Refusal → Type 0
IsOnOpen channels (Nowhere word) = Unit {0}
IsOnOpen channels (On channel word) = (channel < 4) × (slice_get channels channel ≡ Some true)

abbrev pub word_of : Refusal → StatusWord
word_of (Nowhere word) = word
word_of (On channel word) = word

-- the channel that is asked for, where it is an open one of the channels 0 to 3
pub record AsksChannel (channels : List Bool) (asked result : Result ℕ StatusWord) : Type 0 where
  pub channel : result ≡ asked
  pub on_open : IfOk result (λ channel. slice_get channels channel ≡ Some true)
  pub four : IfOk result (λ channel. channel < 4)

-- what is asked for on a channel
pub record AsksOn (on : ℕ) (asked : Result Asked StatusWord) (result : Result Apdu StatusWord) : Type 0 where
  pub apdu : seen apdu_view result ≡ asked
  pub channel : IfOk result (λ apdu. apdu.channel ≡ on)
  -- the data field of one APDU
  pub short : IfOk result (λ apdu. length apdu.body.now ≤ 255)
