-- The language of statements: what a line does where a terminal is, and what a run prints to its lines.
use Rattle.std.specs.Prelude.{ℕ, List, [], ◌∷◌, ◌++◌, map, Option, Some, None, Result, Ok, Err, codes}
use Rattle.scql_model.specs.Machine.{Machine}
use Rattle.scql_model.specs.Lines.{Effect, Language, run_text}
use Rattle.script.specs.declared.fault.ScriptFault.{ScriptFault}
use Rattle.script.specs.declared.statement.Statement.{Statement}
use Rattle.script.specs.Line.{statement_of}
use Rattle.planner.specs.Meaning.{Meaning, meaning}
use Rattle.planner.specs.Text.{row_text, meaning_text, fault_text}

-- where a terminal is: its card's machine, and the channel of its statements
pub record TerminalState : Type 0 where
  pub machine : Machine
  pub channel : ℕ

-- the texts of the first rows, for each number of them
abbrev pub first_texts : List (List ℕ) → List (List ℕ)
first_texts [] = [] ∷ []
first_texts (text ∷ texts) = [] ∷ map (λ (rest : List ℕ). text ++ rest) (first_texts texts)

-- a line that is no statement does nothing
abbrev pub unread : TerminalState → List ℕ → Effect TerminalState
unread state text = record { text = text; next = state; commits = []; faulty = [] ∷ [] }

-- where the card fails in a statement, some first rows were printed
abbrev pub meant : Meaning → Effect TerminalState
meant x = record { text = meaning_text x; next = record { machine = x.machine; channel = x.channel }; commits = x.commits; faulty = first_texts (map row_text x.rows) }

abbrev pub read_effect : TerminalState → Result Statement ScriptFault → Effect TerminalState
read_effect state (Err fault) = unread state (fault_text fault)
read_effect state (Ok statement) = meant (meaning state.machine state.channel statement)

abbrev pub statement_effect : TerminalState → Option (List ℕ) → Effect TerminalState
statement_effect state None = unread state (codes "error line too long\n")
statement_effect state (Some line) = read_effect state (statement_of line)

-- the language of statements
abbrev pub statement_lines : Language TerminalState
statement_lines = record { machine = λ state. state.machine; effect = statement_effect }

-- the text of a terminal that is begun on a machine
abbrev pub term_text : Machine → List (List ℕ) → List ℕ
term_text m lines = run_text statement_lines (record { machine = m; channel = 0 }) lines
