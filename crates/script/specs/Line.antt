-- The statement of a line, or why there is none.
use Rattle.std.specs.Prelude.{ℕ, ◌-◌, ◌==◌, Bool, true, List, [], ◌∷◌, length, Option, Some, None, Result, Ok, Err, if◌then◌else◌}
use Rattle.script.specs.declared.fault.ScriptFault.{ScriptFault}
use Rattle.script.specs.declared.fault.ScriptFault.TheVariants.{At, TooLarge}
use Rattle.script.specs.declared.statement.Statement.{Statement}
use Rattle.script.specs.declared.statement.Statement.TheVariants.{Blank}
use Rattle.script.specs.Tokens.{Token, after_blanks, tokens_of}
use Rattle.script.specs.Reading.{left_of}
use Rattle.script.specs.Grammar.{whole}
use Rattle.script.specs.Sizes.{is_too_large}

-- a line without tokens, or whose first octet that isn't blank is #
abbrev pub is_nothing : List ℕ → Bool
is_nothing [] = true
is_nothing (first ∷ rest) = first == 0x23

abbrev pub sized : Statement → Result Statement ScriptFault
sized statement = if is_too_large statement then Err TooLarge else Ok statement

-- The place of a fault is how many octets stand before the token at fault, and the line's length where the line ends too early.
abbrev pub judged : List ℕ → Option Statement → List Token → Result Statement ScriptFault
judged line None rest = Err (At (length line - left_of rest))
judged line (Some statement) rest = sized statement

abbrev pub statement_of : List ℕ → Result Statement ScriptFault
statement_of line = if is_nothing (after_blanks line) then Ok Blank else judged line (whole (tokens_of line)).0 (whole (tokens_of line)).1
