-- The query of a line, or the place of the fault for which there is none.
use Rattle.std.specs.Prelude.{ℕ, ◌-◌, List, length, Option, Some, None, Result, Ok, Err}
use Rattle.script.specs.declared.fault.ScriptFault.{ScriptFault}
use Rattle.script.specs.declared.fault.ScriptFault.TheVariants.{At}
use Rattle.script.specs.Tokens.{Token, tokens_of}
use Rattle.script.specs.Reading.{left_of}
use Rattle.query.specs.declared.query.AskedObject.{AskedObject}
use Rattle.query.specs.declared.written.NameFault.{NameFault}
use Rattle.query.specs.Asked.{Asked}
use Rattle.query.specs.Written.{Written}
use Rattle.query.specs.Grammar.{whole}
use Rattle.query.specs.Resolving.{resolved}

-- where in a line a fault is that so many octets of the line are from on
abbrev pub fault_at : List ℕ → ℕ → ScriptFault
fault_at line left = At (length line - left)

abbrev pub answered : List ℕ → Result (Asked × List AskedObject) NameFault → Result Asked ScriptFault
answered line (Err fault) = Err (fault_at line fault.left)
answered line (Ok found) = Ok found.0

-- A fault of the grammar is at the first token that no query has there. Where the grammar is met, the first name at fault is.
abbrev pub judged : List ℕ → Option Written → List Token → Result Asked ScriptFault
judged line None rest = Err (fault_at line (left_of rest))
judged line (Some written) rest = answered line (resolved written)

abbrev pub query_of : List ℕ → Result Asked ScriptFault
query_of line = judged line (whole (tokens_of line)).0 (whole (tokens_of line)).1
