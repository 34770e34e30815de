-- The lines that a reader's card was asked for, among all lines of a rack.
use Rattle.std.specs.Prelude.{◌≡◌, ℕ, ◌==◌, Bool, false, List, [], ◌∷◌, ◌++◌, Option, Some, None, is_none, ◌&&◌, if◌then◌else◌}
use Rattle.std.specs.List.{All}
use Rattle.planner.specs.StatementLines.{TerminalState, statement_effect}
use Rattle.reader_rack.specs.declared.statement.RackStatement.{RackStatement}
use Rattle.reader_rack.specs.declared.statement.RackStatement.TheVariants.{Eject}
use Rattle.reader_rack.specs.RackText.{RackState, Turn, turn_effect}
use Rattle.reader_rack.specs.Statements.{rack_statement}

abbrev pub is_eject_of : ℕ → Option RackStatement → Bool
is_eject_of number (Some (Eject reader)) = reader == number
is_eject_of number statement = false

-- the line sets the reader's link aside
abbrev pub ejects : ℕ → Option (List ℕ) → Bool
ejects number None = false
ejects number (Some line) = is_eject_of number (rack_statement line)

-- the line is for the reader's card: the reader is current, and the line isn't the rack's own
abbrev pub is_for : ℕ → RackState → Option (List ℕ) → Bool
is_for number rack None = false
is_for number rack (Some line) = is_none (rack_statement line) && rack.current == number

-- a turn of one reader, and what was printed in it
pub record OwnTurn : Type 0 where
  pub turn : Turn
  pub text : List ℕ

abbrev pub with_own : Bool → OwnTurn → List OwnTurn → List OwnTurn
with_own own turn turns = if own then turn ∷ turns else turns

-- the turns of a reader, up to the first that sets its link aside
abbrev pub own_turns : ℕ → RackState → List Turn → List OwnTurn
own_turns number rack [] = []
own_turns number rack (turn ∷ turns) =
    if ejects number turn.line then []
    else with_own (is_for number rack turn.line) (record { turn = turn; text = (turn_effect rack turn).text }) (own_turns number (turn_effect rack turn).next turns)

-- in none of them did the card go mute
abbrev pub AreSound : List OwnTurn → Type 0
AreSound turns = All (λ (own : OwnTurn). own.turn.fails ≡ None) turns

-- what a terminal prints to lines, from a state on
abbrev pub statements_text : TerminalState → List (Option (List ℕ)) → List ℕ
statements_text state [] = []
statements_text state (line ∷ lines) = (statement_effect state line).text ++ statements_text (statement_effect state line).next lines
