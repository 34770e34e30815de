-- Lines of queries, and what a run prints to them.
use Rattle.std.specs.Prelude.{ℕ, ◌||◌, nat_lt, Bool, true, false, List, [], ◌∷◌, length, map, Option, Some, None, Result, Ok, Err, if◌then◌else◌, codes}
use Rattle.std.specs.List.{concat, list_any}
use Rattle.scql_base.specs.declared.words.StatusWord.{StatusWord}
use Rattle.scql_model.specs.Lines.{Language, taken_line}
use Rattle.scql_model.specs.Machine.{Machine}
use Rattle.scql_model.specs.Matching.{Values}
use Rattle.scql_model.specs.Shown.{Shown, shown_on}
use Rattle.script.specs.declared.fault.ScriptFault.{ScriptFault}
use Rattle.script.specs.Line.{is_nothing}
use Rattle.script.specs.Tokens.{after_blanks}
use Rattle.planner.specs.Text.{fault_text}
use Rattle.row_join.specs.Joins.{kept}
use Rattle.query.specs.Asked.{Asked}
use Rattle.query.specs.Line.{query_of}
use Rattle.query_run.specs.QueryText.{most_combinations, query_text, tables_shown}

-- a query gives no rows: an object is refused, or too many combinations are kept
abbrev pub gives_none : Asked → Result (List (List Values)) StatusWord → Bool
gives_none query (Ok tables) = nat_lt most_combinations (length (kept query.equalities tables))
gives_none query (Err word) = true

unfoldable pub is_refused : Shown → Asked → Bool
is_refused s query = gives_none query (tables_shown s query.objects)

-- what a line prints that isn't nothing, and whether that begins with a refusal
abbrev pub read_text : Shown → Result Asked ScriptFault → List ℕ
read_text s (Ok query) = query_text s query
read_text s (Err fault) = fault_text fault

abbrev pub read_refused : Shown → Result Asked ScriptFault → Bool
read_refused s (Ok query) = is_refused s query
read_refused s (Err fault) = true

-- A line that is blank or a note prints nothing, and a line that is too long says so.
unfoldable pub asked_text : Shown → Option (List ℕ) → List ℕ
asked_text s None = codes "error line too long\n"
asked_text s (Some line) = if is_nothing (after_blanks line) then [] else read_text s (query_of line)

unfoldable pub asked_refused : Shown → Option (List ℕ) → Bool
asked_refused s None = true
asked_refused s (Some line) = if is_nothing (after_blanks line) then false else read_refused s (query_of line)

-- whom the card answers as, and whether a line was refused so far
pub record Asking : Type 0 where
  pub machine : Machine
  pub refused : Bool

-- The language of query lines: each is answered from what is shown on channel 0 where the lines begin, and none changes that. Where the card fails in a line nothing is said of it.
abbrev pub query_lines : Language Asking
query_lines = record {
  machine = λ asking. asking.machine;
  effect = λ asking line. record {
    text = asked_text (shown_on asking.machine 0) line;
    next = record asking { refused = asking.refused || asked_refused (shown_on asking.machine 0) line };
    commits = [];
    faulty = [] ∷ [];
  };
}

-- the texts of lines, each from what is shown, and whether one of them was refused
abbrev pub asked_texts : Shown → List (List ℕ) → List ℕ
asked_texts s lines = concat (map (λ line. asked_text s (taken_line line)) lines)

abbrev pub some_refused : Shown → List (List ℕ) → Bool
some_refused s lines = list_any (λ line. asked_refused s (taken_line line)) lines
