-- Which tokens may stand at a place of a line.
use Rattle.std.specs.Prelude.{ℕ, ◌+◌, ◌&&◌, Bool, true, List, ◌∷◌, ◌++◌, length, nat_le, nat_lt, Option, Some, None, Result, Ok, Err}
use Rattle.scql_model.specs.Lines.{longest_line}
use Rattle.script.specs.declared.fault.ScriptFault.{ScriptFault}
use Rattle.script.specs.declared.fault.ScriptFault.TheVariants.{At, TooLarge}

-- the place of the first token at fault, none where the line is in the grammar
abbrev pub place_of : {A : Type 0} → Result A ScriptFault → Option ℕ
place_of (Ok read) = None
place_of (Err (At place)) = Some place
place_of (Err TooLarge) = None

-- a token behind the first octets of a line
abbrev pub tried : List ℕ → List ℕ → List ℕ
tried before token = before ++ (0x20 ∷ token)

-- no token is at fault up to this place
abbrev pub is_behind : ℕ → Option ℕ → Bool
is_behind place None = true
is_behind place (Some fault) = nat_lt place fault

-- The token may stand there: the line with it is no longer than a line may be, and has no fault, or one behind it alone.
abbrev pub may_stand : (List ℕ → Option ℕ) → List ℕ → List ℕ → Bool
may_stand fault_of before token = nat_le (length (tried before token)) longest_line && is_behind (length before + 1) (fault_of (tried before token))
