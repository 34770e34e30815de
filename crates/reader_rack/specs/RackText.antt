-- What a rack does with lines, and what it prints to them.
use Rattle.std.specs.Prelude.{ℕ, ◌==◌, Bool, true, false, ◌||◌, List, [], ◌∷◌, ◌++◌, map, take, Option, Some, None, is_some, option_map, Result, if◌then◌else◌, codes}
use Rattle.std.specs.List.{concat}
use Rattle.script.specs.declared.fault.ScriptFault.{ScriptFault}
use Rattle.script.specs.declared.statement.Statement.{Statement}
use Rattle.script.specs.Line.{is_nothing, statement_of}
use Rattle.script.specs.Tokens.{after_blanks}
use Rattle.planner.specs.StatementLines.{TerminalState, read_effect}
use Rattle.planner.specs.Text.{row_text}
use Rattle.terminal.specs.declared.refusal.Refusal.TheVariants.{TooLong}
use Rattle.terminal.specs.Line.{refusal_in, rows_in}
use Rattle.reader_rack.specs.declared.rack_refusal.RackRefusal.{RackRefusal}
use Rattle.reader_rack.specs.declared.rack_refusal.RackRefusal.TheVariants.{Line, NoCard}
use Rattle.reader_rack.specs.declared.statement.RackStatement.{RackStatement}
use Rattle.reader_rack.specs.declared.statement.RackStatement.TheVariants.{Select, Eject}
use Rattle.reader_rack.specs.Statements.{rack_statement}

-- What a reader holds: no link, a link that is mute, or one that answers, with its machine and the channel of the reader's terminal.
pub data Held : Type 0 where
  nothing : Held
  mute : Held
  sits : (state : TerminalState) → Held

-- What each reader holds, by its number, and which one is current.
pub record RackState : Type 0 where
  pub reader : ℕ → Held
  pub current : ℕ

-- one reader holds this from then on, and all others what they held
abbrev pub with_reader : RackState → ℕ → Held → RackState
with_reader rack number held = record rack { reader = λ n. if n == number then held else rack.reader n }

-- What a line does to what a reader or a rack holds: its text, with its line feeds; what is held after it; why it was refused, if it was: its closing line is a refusal or an error;
-- whether a card went mute in it.
pub record RackEffect (S : Type 0) : Type 0 where
  pub text : List ℕ
  pub next : S
  pub refusal : Option RackRefusal
  pub muted : Bool

-- a text, in which no card went mute
abbrev pub says : {S : Type 0} → List ℕ → Option RackRefusal → S → RackEffect S
says text refusal next = record { text = text; next = next; refusal = refusal; muted = false }

-- where no link answers, nothing is said of a line that asks for nothing, and `no card` of each other one
abbrev pub unheard : Held → List ℕ → RackEffect Held
unheard held line = if is_nothing (after_blanks line) then says [] None held else says (codes "no card\n") (Some NoCard) held

-- A line does what it means to the reader's machine. Where the card goes mute in it, so many of its rows were printed.
abbrev pub heard : TerminalState → Result Statement ScriptFault → Option ℕ → RackEffect Held
heard state read None = says (read_effect state read).text (option_map Line (refusal_in state read)) (sits (read_effect state read).next)
heard state read (Some rows) = record { text = concat (map row_text (take rows (rows_in state read))) ++ codes "card mute\n"; next = mute; refusal = None; muted = true }

abbrev pub asked : Held → List ℕ → Option ℕ → RackEffect Held
asked (sits state) line fails = heard state (statement_of line) fails
asked held line fails = unheard held line

-- a reader that holds a link holds none afterwards
abbrev pub ejected : Held → RackEffect Held
ejected nothing = says (codes "no card\n") (Some NoCard) nothing
ejected held = says (codes "ok\n") None nothing

-- what is done to one reader of a rack
abbrev pub to_reader : RackState → ℕ → RackEffect Held → RackEffect RackState
to_reader rack number does = record { text = does.text; next = with_reader rack number does.next; refusal = does.refusal; muted = does.muted }

abbrev pub stated : RackState → RackStatement → RackEffect RackState
stated rack (Select number) = says (codes "ok\n") None (record rack { current = number })
stated rack (Eject number) = to_reader rack number (ejected (rack.reader number))

-- the rack carries out its own statements, and asks the current reader's card for any other line
abbrev pub taken : RackState → Option RackStatement → List ℕ → Option ℕ → RackEffect RackState
taken rack (Some statement) line fails = stated rack statement
taken rack None line fails = to_reader rack rack.current (asked (rack.reader rack.current) line fails)

-- What a line does, where there is none if it is too long. Behind how many rows the current card goes mute in it is told, if it does.
abbrev pub rack_effect : RackState → Option (List ℕ) → Option ℕ → RackEffect RackState
rack_effect rack None fails = says (codes "error line too long\n") (Some (Line TooLong)) rack
rack_effect rack (Some line) fails = taken rack (rack_statement line) line fails

-- A line, and behind how many rows a card went mute in it, if one did.
pub record Turn : Type 0 where
  pub line : Option (List ℕ)
  pub fails : Option ℕ

abbrev pub turn_effect : RackState → Turn → RackEffect RackState
turn_effect rack turn = rack_effect rack turn.line turn.fails

-- after lines
abbrev pub rack_after : RackState → List Turn → RackState
rack_after rack [] = rack
rack_after rack (turn ∷ turns) = rack_after (turn_effect rack turn).next turns

-- the texts of lines, one after the other
abbrev pub rack_text : RackState → List Turn → List ℕ
rack_text rack [] = []
rack_text rack (turn ∷ turns) = (turn_effect rack turn).text ++ rack_text (turn_effect rack turn).next turns

-- some closing line was a refusal or an error
abbrev pub was_refused : RackState → List Turn → Bool
was_refused rack [] = false
was_refused rack (turn ∷ turns) = is_some (turn_effect rack turn).refusal || was_refused (turn_effect rack turn).next turns

-- in some line a card went mute
abbrev pub was_muted : RackState → List Turn → Bool
was_muted rack [] = false
was_muted rack (turn ∷ turns) = (turn_effect rack turn).muted || was_muted (turn_effect rack turn).next turns
