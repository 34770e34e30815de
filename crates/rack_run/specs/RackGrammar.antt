-- At which place a line is none of a rack's.
use Rattle.std.specs.Prelude.{ℕ, ◌||◌, Bool, false, List, [], ◌∷◌, length, map, Option, Some, None, is_some, if◌then◌else◌, codes}
use Rattle.std.specs.Str.{bytes_eq}
use Rattle.script.specs.Line.{statement_of}
use Rattle.script.specs.Tokens.{Token, tokens_of}
use Rattle.guide.specs.Standing.{place_of}
use Rattle.reader_rack.specs.Statements.{rack_statement}

abbrev pub is_own_word : List (List ℕ) → Bool
is_own_word (word ∷ []) = bytes_eq word (codes "READER") || bytes_eq word (codes "EJECT")
is_own_word words = false

-- the word of one of the rack's own statements, behind which the number of a reader is to come
abbrev pub is_begun : List ℕ → Bool
is_begun line = is_own_word (map (λ (token : Token). token.octets) (tokens_of line))

-- how many octets of a line stand before what no line of a rack has there, none where the line is one: its own statement, or any other
abbrev pub rack_fault : List ℕ → Option ℕ
rack_fault line =
    if is_begun line then Some (length line)
    else if is_some (rack_statement line) then None
    else place_of (statement_of line)
