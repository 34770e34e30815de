-- A line that has begun, as the list of its octets.
use Rattle.std.specs.Prelude.{ℕ, List, Option}
use Rattle.scql_model.specs.Lines.{taken_line}
use Rattle.line_input.specs.declared.line.Line.{Line}

-- its octets, or none where it is too long
abbrev pub line_octets : Line → Option (List ℕ)
line_octets line = taken_line line.octets.items
