-- The words of the command line behind the file's name.
use Rattle.std.specs.Prelude.{ℕ, ◌≤◌, ◌+◌, ◌-◌, ◌*◌, ◌==◌, nat_le, nat_lt, not, ◌&&◌, ◌||◌, Bool, true, false, List, [], ◌∷◌, length, Option, Some, None, option_map, option_and_then, if◌then◌else◌, codes}
use Rattle.std.specs.List.{fold, list_all}
use Rattle.std.specs.Char.{is_ascii_digit}
use Rattle.std.specs.Str.{bytes_eq}
use Rattle.eeprom.specs.StoreOf.{fewest_cells, most_cells}
use Rattle.card_run.specs.declared.words.Form.{Form}
use Rattle.card_run.specs.declared.words.Form.TheVariants.{New, Apdu, Term, Check, Load, Migrate}

-- one to five decimal digits
abbrev pub is_number : List ℕ → Bool
is_number digits = not (length digits == 0) && nat_le (length digits) 5 && list_all is_ascii_digit digits

-- the number that decimal digits spell
abbrev pub with_digit : ℕ → ℕ → ℕ
with_digit number digit = number * 10 + (digit - 0x30)

abbrev pub decimal_in : List ℕ → Option ℕ
decimal_in digits = if is_number digits then Some (fold with_digit 0 digits) else None

-- a card has 16 to 2,048 cells
abbrev pub in_limits : ℕ → Option ℕ
in_limits cells = if nat_lt cells fewest_cells || nat_lt most_cells cells then None else Some cells

-- the number of cells that digits tell
abbrev pub cells_asked : List ℕ → Option ℕ
cells_asked digits = option_and_then in_limits (decimal_in digits)

-- the load that two numbers tell: it has at most 1,000 rows, and goes from a number of at most 65,535
abbrev pub load_asked : Option ℕ → Option ℕ → Option Form
load_asked (Some rows) (Some seed) = if nat_lt 1000 rows || nat_lt 65535 seed then None else Some (Load rows seed)
load_asked rows seed = None

-- what the words ask for: `apdu`, `term`, `check`, `migrate`, `new` and a number of cells, or `load`, a number of rows and a seed
abbrev pub form_in : List (List ℕ) → Option Form
form_in (word ∷ []) =
    if bytes_eq word (codes "apdu") then Some Apdu
    else if bytes_eq word (codes "term") then Some Term
    else if bytes_eq word (codes "check") then Some Check
    else if bytes_eq word (codes "migrate") then Some Migrate
    else None
form_in (word ∷ digits ∷ []) = if bytes_eq word (codes "new") then option_map New (cells_asked digits) else None
form_in (word ∷ rows ∷ seed ∷ []) = if bytes_eq word (codes "load") then load_asked (decimal_in rows) (decimal_in seed) else None
form_in words = None

-- the card that is to be made has 16 to 2,048 cells
abbrev pub IsWithinLimits : Form → Type 0
IsWithinLimits (New n) = (fewest_cells ≤ n) × (n ≤ most_cells)
IsWithinLimits form = Unit {0}

-- a card is made for the run of this form
abbrev pub makes_card : Form → Bool
makes_card (New n) = true
makes_card form = false

-- it reads lines of input
abbrev pub reads_input : Form → Bool
reads_input (New n) = true
reads_input Apdu = true
reads_input Term = true
reads_input form = false

-- it carries out statements, which may be refused
abbrev pub carries_out_statements : Form → Bool
carries_out_statements Term = true
carries_out_statements (Load rows seed) = true
carries_out_statements form = false

-- the run of this form answers the lines of its input as commands
abbrev pub answers_commands : Form → Bool
answers_commands (New n) = true
answers_commands Apdu = true
answers_commands form = false
