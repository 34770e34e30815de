-- The reading of a command (ISO/IEC 7816-4, command APDU): which command octets are, or a part of one, or the first refusal that applies.
use Rattle.std.specs.Prelude.{ℕ, ◌+◌, ◌/◌, ◌%◌, ◌==◌, not, ◌&&◌, ◌||◌, Bool, false, List, [], ◌∷◌, ◌++◌, length, take, Option, Some, None, is_some, Result, Ok, Err, slice_get, slice_index, unwrap_or, if◌then◌else◌}
use Rattle.std.specs.List.{concat}
use Rattle.std.specs.Option.{is_none}
use Rattle.scql_base.specs.declared.operation.TheConstants.Command.{MOST_PARTS, LARGEST_LE}
use Rattle.scql_base.specs.declared.words.StatusWord.{StatusWord}
use Rattle.scql_base.specs.declared.operation.Command.{Command}
use Rattle.scql_base.specs.declared.operation.Line.{Line}
use Rattle.scql_base.specs.declared.operation.OperationKind.{OperationKind}
use Rattle.scql_base.specs.declared.operation.Takes.{Takes}
use Rattle.scql_base.specs.declared.operation.Takes.TheVariants.{Nothing, DataField, LeAlone}
use Rattle.scql_base.specs.Words.{wrong_length, class_not_supported, secure_messaging_not_supported, chaining_not_supported, instruction_not_supported, channel_not_supported, wrong_parameters, wrong_data}
use Rattle.scql_model.specs.Refusals.{◌>>=◌, or_refused, provided}
use Rattle.scql_model.specs.Machine.{Chain}
use Rattle.scql_model.specs.Operations.{has_instruction, has_secrets, line_of, is_for_channel, goes_on, comes_in_parts}
use Rattle.scql_model.specs.Parameters.{operation_in}

-- The first interindustry class, without secure messaging: bits b8 b7 b6, then b4 b3 of CLA are 0.
abbrev pub class_of : ℕ → Result (Unit {0}) StatusWord
class_of cla =
    if not (cla / 32 == 0) then Err class_not_supported
    else if not (cla / 4 % 4 == 0) then Err secure_messaging_not_supported
    else Ok tt

-- Bit b5 of CLA: the command goes on in the next one (command chaining).
abbrev pub is_chained : ℕ → Bool
is_chained cla = cla / 16 % 2 == 1

-- the channel is one of those told of, and is told to be open
abbrev pub is_open : Option Bool → Bool
is_open None = false
is_open (Some told) = told

-- The logical channel is in bits b2 b1 of CLA, and is open.
abbrev pub channel_of : ℕ → List Bool → Result ℕ StatusWord
channel_of cla channels = if is_open (slice_get channels (cla % 4)) then Ok (cla % 4) else Err channel_not_supported

-- What stands behind P2: a data field or none, and Le or none.
pub record Tail : Type 0 where
  pub body : Option (List ℕ)
  pub le : Option ℕ

-- Le in one octet is 1 to 256, 256 being 00
abbrev pub le_of : ℕ → ℕ
le_of octet = if octet == 0 then LARGEST_LE else octet

-- Lc octets of data, and nothing or Le behind them
abbrev pub data_of : ℕ → List ℕ → Option Tail
data_of lc rest =
    if length rest == lc then Some (record { body = Some rest; le = None })
    else if length rest == lc + 1 then Some (record { body = Some (take lc rest); le = Some (le_of (slice_index rest lc)) })
    else None

-- The four cases of a command: nothing, Le, Lc and data, or Lc, data and Le. Lc isn't 0.
abbrev pub tail_of : List ℕ → Option Tail
tail_of [] = Some (record { body = None; le = None })
tail_of (le ∷ []) = Some (record { body = None; le = Some (le_of le) })
tail_of (lc ∷ x ∷ rest) = if lc == 0 then None else data_of lc (x ∷ rest)

-- the cases that an operation takes
abbrev pub takes_case : Takes → Tail → Bool
takes_case Nothing tail = is_none tail.body
takes_case DataField tail = is_some tail.body
takes_case LeAlone tail = is_none tail.body && is_some tail.le

-- case 3: data without Le
abbrev pub is_case_3 : Tail → Bool
is_case_3 tail = is_some tail.body && is_none tail.le

-- the data field, which has no octets where there is none
abbrev pub data_in : Tail → List ℕ
data_in tail = unwrap_or tail.body []

-- the parts that a channel has of a command of this operation
abbrev pub parts_of : OperationKind → Option Chain → List (List ℕ)
parts_of kind None = []
parts_of kind (Some chain) = if goes_on kind chain.operation then chain.parts else []

-- What octets are.
pub data Form : Type 0 where
  -- refused before they come to an open channel
  refused : StatusWord → Form
  -- refused on an open channel
  refused_on : ℕ → StatusWord → Form
  -- on a channel, octets of the data field of this operation, which goes on in the next command
  part_on : ℕ → OperationKind → List ℕ → Form
  a_command : Command → Form

-- what was read on a channel
abbrev pub formed_on : ℕ → Result Form StatusWord → Form
formed_on channel (Err word) = refused_on channel word
formed_on channel (Ok form) = form

-- a channel is read, and then the rest on it
abbrev pub formed : Result ℕ StatusWord → (ℕ → Result Form StatusWord) → Form
formed (Err word) on_channel = refused word
formed (Ok channel) on_channel = formed_on channel (on_channel channel)

-- A part: INSERT and UPDATE have at most so many before the last.
abbrev pub part_in : ℕ → OperationKind → List (List ℕ) → Tail → Result Form StatusWord
part_in channel kind parts tail = do
  _ ← provided (comes_in_parts kind) chaining_not_supported
  _ ← provided (not (length parts == MOST_PARTS)) wrong_length
  Ok (part_on channel kind (data_in tail))

-- A command: its data field is that of the parts so far and its own, joined.
abbrev pub command_in : Bool → ℕ → OperationKind → ℕ → List (List ℕ) → Tail → Result Form StatusWord
command_in secrets channel kind limit parts tail = do
  operation ← or_refused (operation_in secrets kind limit (concat parts ++ data_in tail)) wrong_data
  Ok (a_command (record { channel = channel; operation = operation; le = tail.le }))

-- the open channel that a known instruction of the class is for
abbrev pub channel_asked : List Line → ℕ → ℕ → List Bool → Result ℕ StatusWord
channel_asked table cla ins channels = do
  _ ← class_of cla
  _ ← provided (has_instruction table ins) instruction_not_supported
  channel_of cla channels

-- the operation that P1 and P2 ask for on a channel
abbrev pub line_on : List Line → ℕ → ℕ → ℕ → ℕ → Result Line StatusWord
line_on table channel ins p1 p2 = do
  line ← or_refused (line_of table ins p1 p2) wrong_parameters
  _ ← provided (is_for_channel channel line.kind) wrong_parameters
  Ok line

-- what stands behind P2, in a case that the operation takes; a part of a command takes case 3 alone
abbrev pub taken_in : Takes → Bool → List ℕ → Result Tail StatusWord
taken_in takes is_part after = do
  tail ← or_refused (tail_of after) wrong_length
  _ ← provided (takes_case takes tail && (not is_part || is_case_3 tail)) wrong_length
  Ok tail

-- What octets are, by a table of operations, where these channels are open, with the chain of each channel, and where a row has at most so many octets.
unfoldable pub form_of : List Line → List ℕ → List Bool → (ℕ → Option Chain) → ℕ → Form
form_of table (cla ∷ ins ∷ p1 ∷ p2 ∷ after) channels chain limit =
    formed (channel_asked table cla ins channels) λ channel. do
      line ← line_on table channel ins p1 p2
      tail ← taken_in line.takes (is_chained cla) after
      if is_chained cla
          then part_in channel line.kind (parts_of line.kind (chain channel)) tail
          else command_in (has_secrets table) channel line.kind limit (parts_of line.kind (chain channel)) tail
form_of table octets channels chain limit = refused wrong_length

-- no channel has a part of a command
abbrev pub no_chain : ℕ → Option Chain
no_chain channel = None

-- what is read as one command: a part isn't, as where command chaining isn't supported
abbrev pub as_command : Form → Result Command StatusWord
as_command (refused word) = Err word
as_command (refused_on channel word) = Err word
as_command (part_on channel kind octets) = Err chaining_not_supported
as_command (a_command c) = Ok c
