-- The tokens of a line. A token is the longest of a word, a number, a literal and a sign that stands at its place.
use Rattle.std.specs.Prelude.{ℕ, zero, suc, ◌+◌, ◌-◌, ◌==◌, ◌%◌, max, Bool, true, false, ◌&&◌, ◌||◌, List, [], ◌∷◌, length, take, drop, Option, Some, None, option_map, unwrap_or, if◌then◌else◌, codes}
use Rattle.std.specs.List.{list_any, starts_with, take_while}
use Rattle.std.specs.Prelude.{nat_eq}
use Rattle.std.specs.Char.{is_ascii_uppercase, is_ascii_digit}
use Rattle.hex.specs.Hex.{is_hex_digit}
use Rattle.scql_base.specs.Name.{is_name_octet}
use Rattle.scql_model.specs.Lines.{is_blank}

abbrev pub is_quote : ℕ → Bool
is_quote octet = octet == 0x27

-- Each of these is how many octets from a line's first on are one of that kind, and 0 where there is none.

-- a letter A to Z, and then letters, digits and _
abbrev pub begins_word : List ℕ → Bool
begins_word [] = false
begins_word (first ∷ rest) = is_ascii_uppercase first

abbrev pub name_octets : List ℕ → ℕ
name_octets line = length (take_while is_name_octet line)

abbrev pub word_len : List ℕ → ℕ
word_len line = if begins_word line then name_octets line else 0

abbrev pub number_len : List ℕ → ℕ
number_len line = length (take_while is_ascii_digit line)

-- how many octets are still of a literal, of octets inside it, or behind a quote in it, which closes it unless it is the first of two
unfoldable pub closed : Bool → List ℕ → Option ℕ
closed false [] = None
closed true [] = Some 0
closed false (octet ∷ rest) = option_map (λ n. n + 1) (closed (is_quote octet) rest)
closed true (octet ∷ rest) = if is_quote octet then Some (unwrap_or (option_map (λ n. n + 1) (closed false rest)) 0) else Some 0

-- a quote, octets in which two quotes stand for one, and a quote
abbrev pub literal_len : List ℕ → ℕ
literal_len [] = 0
literal_len (first ∷ rest) = if is_quote first then unwrap_or (option_map (λ n. n + 1) (closed false rest)) 0 else 0

-- X, a quote, an even number of hexadecimal digits, and a quote
abbrev pub digits_len : List ℕ → ℕ
digits_len rest = length (take_while is_hex_digit rest)

abbrev pub is_closed_digits : List ℕ → Bool
is_closed_digits rest = digits_len rest % 2 == 0 && starts_with nat_eq (drop (digits_len rest) rest) (codes "'")

abbrev pub hexadecimal_len : List ℕ → ℕ
hexadecimal_len line = if starts_with nat_eq line (codes "X'") && is_closed_digits (drop 2 line) then digits_len (drop 2 line) + 3 else 0

-- one of ( ) , * ; = < > . <= >= <>; no statement has the .
abbrev pub sign_len : List ℕ → ℕ
sign_len line =
    if starts_with nat_eq line (codes "<=") || starts_with nat_eq line (codes ">=") || starts_with nat_eq line (codes "<>") then 2
    else if list_any (λ sign. starts_with nat_eq line (sign ∷ [])) (codes "(),*;=<>.") then 1
    else 0

-- the longest of these, and the whole line where there is none
abbrev pub longest_len : List ℕ → ℕ
longest_len line = max (word_len line) (max (number_len line) (max (literal_len line) (max (hexadecimal_len line) (sign_len line))))

abbrev pub token_len : List ℕ → ℕ
token_len line = if longest_len line == 0 then length line else longest_len line

-- a token's octets, and how many octets of the line there are from it on
pub record Token : Type 0 where
  pub octets : List ℕ
  pub left : ℕ

abbrev pub token_at : List ℕ → Token
token_at line = record { octets = take (token_len line) line; left = length line }

-- the octets behind this one that are of the same token
abbrev pub behind_first : ℕ → List ℕ → ℕ
behind_first octet rest = if is_blank octet then 0 else token_len (octet ∷ rest) - 1

abbrev pub with_token : Bool → List ℕ → List Token → List Token
with_token blank line tokens = if blank then tokens else token_at line ∷ tokens

-- the tokens of a line that begin behind so many of its octets
unfoldable pub tokens_from : ℕ → List ℕ → List Token
tokens_from n [] = []
tokens_from (suc n) (octet ∷ rest) = tokens_from n rest
tokens_from zero (octet ∷ rest) = with_token (is_blank octet) (octet ∷ rest) (tokens_from (behind_first octet rest) rest)

unfoldable pub tokens_of : List ℕ → List Token
tokens_of line = tokens_from 0 line

-- what stands behind a line's first blanks
abbrev pub blanks_len : List ℕ → ℕ
blanks_len line = length (take_while is_blank line)

abbrev pub after_blanks : List ℕ → List ℕ
after_blanks line = drop (blanks_len line) line
