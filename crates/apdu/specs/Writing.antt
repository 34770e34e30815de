-- The data field of a command, as it is put together, and its parts.
use Rattle.std.specs.Prelude.{◌≡◌, ◌<◌, ℕ, ◌-◌, nat_le, Bool, true, List, [], ◌++◌, length, Option, Some, None, if◌then◌else◌}
use Rattle.scql_base.specs.declared.operation.TheConstants.Command.{LONGEST_IN_PARTS}
use Rattle.std.specs.Option.{option_map_or}
use Rattle.scql_base.specs.declared.operation.Command.{Command}
use Rattle.scql_base.specs.declared.operation.Line.{Line}
use Rattle.scql_base.specs.declared.operation.Operation.{Operation}
use Rattle.scql_model.specs.Operations.{comes_in_parts, kind_of, operations}
use Rattle.scql_model.specs.Spelling.{field_of, line_for, longest_field, part_by}

-- a data field with more octets at its end; none where there is no room for them
abbrev pub with_more : List ℕ → Option (List ℕ) → Option (List ℕ)
with_more octets None = None
with_more octets (Some field) = if nat_le (length octets) (LONGEST_IN_PARTS - length field) then Some (field ++ octets) else None

-- how many octets the data field of an operation has that may come in parts, and none of another
abbrev pub size_in_parts : Operation → Option ℕ
size_in_parts operation = if comes_in_parts (kind_of operation) then Some (length (field_of operation)) else None

-- the data field of an operation isn't too long to be written
abbrev pub field_fits : Operation → Bool
field_fits operation = nat_le (length (field_of operation)) (longest_field (kind_of operation))

-- The part of a command at a place of these octets, as its data field. An operation that stands in no line of the table is written as no octets.
abbrev pub part_of : Command → List ℕ → ℕ → List ℕ
part_of c field place = option_map_or (λ (l : Line). part_by l c.channel c.le field place) (line_for operations (kind_of c.operation)) []

-- a command that can be written is of one part
pub record IsOnePart (can_be_written : Bool) (count : ℕ) : Type 0 where
  pub fits : can_be_written ≡ true
  pub one : count ≡ 1

-- a command that can be written has a part at a place
pub record HasPart (can_be_written : Bool) (count place : ℕ) : Type 0 where
  pub fits : can_be_written ≡ true
  pub there : place < count
