-- The rack's own statements, which no card is asked for.
use Rattle.std.specs.Prelude.{ℕ, ◌≤◌, List, [], ◌∷◌, map, Option, Some, None, option_map, if◌then◌else◌, codes}
use Rattle.std.specs.Str.{bytes_eq}
use Rattle.script.specs.Tokens.{Token, tokens_of}
use Rattle.reader_rack.specs.declared.statement.RackStatement.{RackStatement}
use Rattle.reader_rack.specs.declared.statement.RackStatement.TheVariants.{Select, Eject}

-- readers have the numbers 1 to 4
abbrev pub IsReader : ℕ → Type 0
IsReader number = (1 ≤ number) × (number ≤ 4)

abbrev pub reader_of : List ℕ → Option ℕ
reader_of token =
    if bytes_eq token (codes "1") then Some 1
    else if bytes_eq token (codes "2") then Some 2
    else if bytes_eq token (codes "3") then Some 3
    else if bytes_eq token (codes "4") then Some 4
    else None

-- the word READER or EJECT, and the number of a reader
abbrev pub worded : List ℕ → Option ℕ → Option RackStatement
worded word reader =
    if bytes_eq word (codes "READER") then option_map Select reader
    else if bytes_eq word (codes "EJECT") then option_map Eject reader
    else None

-- with a ; behind it, or without
abbrev pub rack_words : List (List ℕ) → Option RackStatement
rack_words (word ∷ number ∷ []) = worded word (reader_of number)
rack_words (word ∷ number ∷ end' ∷ []) = if bytes_eq end' (codes ";") then worded word (reader_of number) else None
rack_words words = None

-- a line whose tokens are such a statement
abbrev pub rack_statement : List ℕ → Option RackStatement
rack_statement line = rack_words (map (λ (token : Token). token.octets) (tokens_of line))

-- the reader that a statement names
abbrev pub names_reader : RackStatement → ℕ
names_reader (Select reader) = reader
names_reader (Eject reader) = reader

-- the reader that is current behind a statement
abbrev pub selected : RackStatement → ℕ → ℕ
selected (Select reader) current = reader
selected (Eject reader) current = current
