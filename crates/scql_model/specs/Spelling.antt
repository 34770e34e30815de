-- The spelling of commands (ISO/IEC 7816-4, command APDU): the octets that a command is written as, whole or in parts.
use Rattle.std.specs.Prelude.{◌≡◌, slice_get, ℕ, zero, suc, ◌+◌, ◌*◌, ◌/◌, ◌%◌, max, nat_le, nat_lt, Bool, true, false, List, [], ◌∷◌, ◌++◌, length, take, drop, Option, Some, None, if◌then◌else◌}
use Rattle.std.specs.List.{find, flat_map}
use Rattle.std.specs.Option.{option_map_or}
use Rattle.scql_base.specs.declared.operation.TheConstants.Command.{LONGEST_DATA, LONGEST_IN_PARTS}
use Rattle.scql_base.specs.declared.operation.Command.{Command}
use Rattle.scql_base.specs.declared.operation.Line.{Line}
use Rattle.scql_base.specs.declared.operation.Operation.{Operation}
use Rattle.scql_base.specs.declared.operation.Operation.TheVariants.{Insert, CreateUser, Verify}
use Rattle.scql_base.specs.declared.operation.OperationKind.{OperationKind}
use Rattle.scql_base.specs.contracts.operation.OperationKindPartialEq.TheImpl.{ghosts}
use Rattle.scql_base.specs.Row.{row_size}
use Rattle.scql_base.specs.Strings.{spelled}
use Rattle.scql_model.specs.Form.{Form, parts_of, form_of}
use Rattle.scql_model.specs.Machine.{Chain}
use Rattle.scql_model.specs.Operations.{operations, line_of, comes_in_parts, kind_of}
use Rattle.scql_model.specs.Parameters.{is_new_secret}
pub use Rattle.scql_model.specs.Parameters.{condition_strings, choice_strings, parameters_of}

-- The data field: the bare secret of VERIFY; of each other operation its parameters, each a length octet and its octets.
abbrev pub field_of : Operation → List ℕ
field_of (Verify secret) = secret
field_of operation = flat_map spelled (parameters_of operation)

-- two are the same operation, as the code's `==` says
abbrev pub is_same : OperationKind → OperationKind → Bool
is_same kind other = ghosts.eq kind other

-- the line of a table for an operation
abbrev pub line_for : List Line → OperationKind → Option Line
line_for table kind = find (λ (l : Line). is_same l.kind kind) table

-- CLA: the channel in bits b2 b1, and bit b5 where the command goes on in the next one
abbrev pub cla_of : ℕ → Bool → ℕ
cla_of channel is_part = channel % 4 + (if is_part then 16 else 0)

-- Lc and the data, or no octets where there are no data
abbrev pub with_length : List ℕ → List ℕ
with_length [] = []
with_length (octet ∷ octets) = spelled (octet ∷ octets)

-- Le in one octet, 256 being 00, or none
abbrev pub le_octets : Option ℕ → List ℕ
le_octets None = []
le_octets (Some le) = le % 256 ∷ []

-- CLA INS P1 P2, the data with Lc, and Le
abbrev pub apdu_by : Line → ℕ → List ℕ → Option ℕ → List ℕ
apdu_by line cla body le = cla ∷ line.ins ∷ line.p1 ∷ line.p2 ∷ (with_length body ++ le_octets le)

-- The octets of a command. An operation that stands in no line of the table, as to open channel 7, is written as none.
unfoldable pub octets_of : Command → List ℕ
octets_of c = option_map_or (λ (l : Line). apdu_by l (cla_of c.channel false) (field_of c.operation) c.le) (line_for operations (kind_of c.operation)) []

-- how many octets a data field may have: that of INSERT and UPDATE may come in parts
abbrev pub longest_field : OperationKind → ℕ
longest_field kind = if comes_in_parts kind then LONGEST_IN_PARTS else LONGEST_DATA

-- a command can be written
abbrev pub fits : Command → Bool
fits c = nat_le (length (field_of c.operation)) (longest_field (kind_of c.operation))

-- the least number of parts of 255 octets that hold so many octets, and at least 1
abbrev pub parts_for : ℕ → ℕ
parts_for size = max 1 ((size + 254) / LONGEST_DATA)

-- the first so many parts of octets, of 255 octets each
abbrev pub first_parts : ℕ → List ℕ → List (List ℕ)
first_parts zero octets = []
first_parts (suc count) octets = take LONGEST_DATA octets ∷ first_parts count (drop LONGEST_DATA octets)

-- the part at a place, counted from 0
abbrev pub part_at : ℕ → List ℕ → List ℕ
part_at place octets = take LONGEST_DATA (drop (LONGEST_DATA * place) octets)

-- how many parts a command has
abbrev pub part_count : Command → ℕ
part_count c = parts_for (length (field_of c.operation))

-- a part goes on in the next one where it isn't the last
abbrev pub goes_on_after : Command → ℕ → Bool
goes_on_after c place = nat_lt (place + 1) (part_count c)

-- the part at a place of a data field, by the line of the operation; Le stands in the last part
abbrev pub part_by : Line → ℕ → Option ℕ → List ℕ → ℕ → List ℕ
part_by line channel le field place =
    let is_part = nat_lt (place + 1) (parts_for (length field)) in
    apdu_by line (cla_of channel is_part) (part_at place field) (if is_part then None else le)

-- The octets of the part of a command at a place.
unfoldable pub part_octets : Command → ℕ → List ℕ
part_octets c place =
    option_map_or (λ (l : Line). part_by l c.channel c.le (field_of c.operation) place) (line_for operations (kind_of c.operation)) []

-- What a card takes of the operations that have their forms: an INSERT's row within its limit, and a new user's secret where secrets can be shown.
abbrev pub IsTaken : Bool → ℕ → Operation → Type 0
IsTaken secrets limit (Insert table values) = nat_le (row_size values) limit ≡ true
IsTaken secrets limit (CreateUser name profile secret) = is_new_secret secrets secret ≡ true
IsTaken secrets limit operation = Unit {0}

-- a table has the line of an operation: it is found by its INS, P1 and P2
abbrev pub HasLine : List Line → OperationKind → Type 0
HasLine table kind = (l : Line) → line_for operations kind ≡ Some l → line_of table l.ins l.p1 l.p2 ≡ Some l

-- Octets are read as this by a table and under a limit, where the command's channel is open and these parts of a command of its operation came before.
abbrev pub ReadsAs : List Line → ℕ → Command → List (List ℕ) → List ℕ → Form → Type 0
ReadsAs table limit c before octets form =
    (channels : List Bool) (chain : ℕ → Option Chain) → slice_get channels c.channel ≡ Some true → parts_of (kind_of c.operation) (chain c.channel) ≡ before
    → form_of table octets channels chain limit ≡ form
