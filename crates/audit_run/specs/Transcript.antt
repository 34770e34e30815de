-- A transcript of a run: what was asked, a line behind `> ` each, and what was said to it, a line behind `< `.
use Rattle.std.specs.Prelude.{ℕ, suc, ◌==◌, not, Bool, true, false, List, [], ◌∷◌, ◌++◌, Option, Some, None, if◌then◌else◌, codes}
use Rattle.scql_model.specs.Lines.{lines}

-- what a line is of a transcript
pub data Entry : Type 0 where
  input : (text : List ℕ) → Entry
  output : (text : List ℕ) → Entry
  neither : Entry

-- a mark, a blank, and the text
abbrev pub marked : ℕ → ℕ → List ℕ → Entry
marked mark blank text =
    if not (blank == 0x20) then neither
    else if mark == 0x3E then input text
    else if mark == 0x3C then output text
    else neither

abbrev pub entry_of : List ℕ → Entry
entry_of [] = neither
entry_of (mark ∷ []) = neither
entry_of (mark ∷ blank ∷ text) = marked mark blank text

abbrev pub is_input : Entry → Bool
is_input (input text) = true
is_input (output text) = false
is_input neither = false

-- a line has a mark, and one of output stands right behind one of input
abbrev pub is_formed : Bool → Entry → Bool
is_formed behind_input (input text) = true
is_formed behind_input (output text) = behind_input
is_formed behind_input neither = false

-- the number of the first line that isn't formed, the first line having this one; and whether one of input stands before it
abbrev pub malformed_from : ℕ → Bool → List (List ℕ) → Option ℕ
malformed_from number behind_input [] = None
malformed_from number behind_input (line ∷ rest) =
    if is_formed behind_input (entry_of line) then malformed_from (suc number) (is_input (entry_of line)) rest else Some number

-- A line of input: its number, its text, and what is told to be said to it, with a line feed where it is a line.
pub record Exchange : Type 0 where
  pub number : ℕ
  pub asked : List ℕ
  pub told : List ℕ

-- what the next line tells
abbrev pub told_in : Entry → List ℕ
told_in (output text) = text ++ codes "\n"
told_in (input text) = []
told_in neither = []

abbrev pub told_by : List (List ℕ) → List ℕ
told_by [] = []
told_by (line ∷ rest) = told_in (entry_of line)

-- the exchange that a line begins, if it is one of input
abbrev pub exchange_at : ℕ → Entry → List (List ℕ) → List Exchange
exchange_at number (input text) rest = record { number = number; asked = text; told = told_by rest } ∷ []
exchange_at number (output text) rest = []
exchange_at number neither rest = []

abbrev pub exchanges_from : ℕ → List (List ℕ) → List Exchange
exchanges_from number [] = []
exchanges_from number (line ∷ rest) = exchange_at number (entry_of line) rest ++ exchanges_from (suc number) rest

-- of a whole transcript
abbrev pub malformed : List ℕ → Option ℕ
malformed transcript = malformed_from 1 false (lines transcript true)

abbrev pub exchanges : List ℕ → List Exchange
exchanges transcript = exchanges_from 1 (lines transcript true)
