-- The script of a load, which fills a table from a number, changes it and reads it, and what is told of its run.
use Rattle.std.specs.Prelude.{ℕ, zero, suc, ◌+◌, ◌*◌, ◌/◌, ◌%◌, Bool, true, false, List, [], ◌∷◌, ◌++◌, Option, Some, codes}
use Rattle.std.specs.List.{count_by}
use Rattle.std.specs.Fmt.{decimal}
use Rattle.scql_model.specs.Database.{Database}
use Rattle.scql_model.specs.Lines.{line_step, state_after}
use Rattle.scql_model.specs.Machine.{start}
use Rattle.script.specs.Line.{statement_of}
use Rattle.planner.specs.declared.closing.Closing.{Closing}
use Rattle.planner.specs.declared.closing.Closing.TheVariants.{Rows, Cut, Refused}
use Rattle.planner.specs.StatementLines.{TerminalState, statement_lines}
use Rattle.terminal.specs.Holding.{terminal_at}
use Rattle.terminal.specs.Quiet.{closing_in}

-- the pseudo-random number that follows one
abbrev pub next_number : ℕ → ℕ
next_number x = (75 * x + 74) % 65537

-- the last so many decimal digits of a number, with leading zeros
abbrev pub last_digits : ℕ → ℕ → List ℕ
last_digits zero x = []
last_digits (suc count) x = last_digits count (x / 10) ++ (0x30 + x % 10) ∷ []

abbrev pub insert_line : ℕ → ℕ → List ℕ
insert_line key x = codes "INSERT INTO LOAD VALUES ('" ++ (last_digits 4 key ++ (codes "', '" ++ (last_digits 5 x ++ codes "')")))

-- so many rows, from a key on, by the numbers that follow one
abbrev pub insert_lines : ℕ → ℕ → ℕ → List (List ℕ)
insert_lines zero key x = []
insert_lines (suc count) key x = insert_line key (next_number x) ∷ insert_lines count (key + 1) (next_number x)

-- the table is made and filled; then some rows are changed, some deleted, and all read
abbrev pub filling_lines : ℕ → ℕ → List (List ℕ)
filling_lines k seed = codes "PRESENT OWNER" ∷ codes "CREATE TABLE LOAD (K, V)" ∷ insert_lines k 1 seed

abbrev pub change_line : List ℕ
change_line = codes "UPDATE LOAD SET V = '00000' WHERE V < '10000'"

abbrev pub delete_line : List ℕ
delete_line = codes "DELETE FROM LOAD WHERE V >= '50000'"

abbrev pub select_line : List ℕ
select_line = codes "SELECT * FROM LOAD"

abbrev pub load_script : ℕ → ℕ → List (List ℕ)
load_script k seed = filling_lines k seed ++ change_line ∷ delete_line ∷ select_line ∷ []

-- how the lines of a script close
abbrev pub closings : TerminalState → List (List ℕ) → List (Option Closing)
closings state [] = []
closings state (line ∷ lines) = closing_in state (statement_of line) ∷ closings (line_step statement_lines state line) lines

-- the number of a closing line, or 0 where there is none
abbrev pub number_of : Option Closing → ℕ
number_of (Some (Rows number)) = number
number_of (Some (Cut number)) = number
number_of closing = 0

abbrev pub is_refused : Option Closing → Bool
is_refused (Some (Refused word)) = true
is_refused closing = false

-- How many rows were read, changed and deleted at last, and how many statements were refused.
pub record LoadCounts : Type 0 where
  pub rows : ℕ
  pub changed : ℕ
  pub deleted : ℕ
  pub refused : ℕ

abbrev pub counts_from : List (Option Closing) → TerminalState → TerminalState → TerminalState → LoadCounts
counts_from closings filled changed deleted = record {
  rows = number_of (closing_in deleted (statement_of select_line));
  changed = number_of (closing_in filled (statement_of change_line));
  deleted = number_of (closing_in changed (statement_of delete_line));
  refused = count_by is_refused closings;
}

abbrev pub load_counts : TerminalState → ℕ → ℕ → LoadCounts
load_counts state k seed =
    let filled = state_after statement_lines state (filling_lines k seed) in
    let changed = line_step statement_lines filled change_line in
    counts_from (closings state (load_script k seed)) filled changed (line_step statement_lines changed delete_line)

abbrev pub counts_text : LoadCounts → List ℕ
counts_text counts =
    codes "load rows " ++ (decimal counts.rows ++ (codes " changed " ++ (decimal counts.changed ++ (codes " deleted " ++ (decimal counts.deleted ++ (codes " refused " ++ (decimal counts.refused ++ codes "\n")))))))

-- what is told of the script from a state of the terminal on
abbrev pub script_text : TerminalState → ℕ → ℕ → List ℕ
script_text state k seed = counts_text (load_counts state k seed)

-- what is told of a load on a card with this database
abbrev pub load_text : Database → ℕ → ℕ → List ℕ
load_text db k seed = script_text (terminal_at (start db) 0) k seed
