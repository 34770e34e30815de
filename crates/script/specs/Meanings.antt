-- What a token stands for: names, literals, comparisons, privileges, numbers of channels.
use Rattle.std.specs.Prelude.{ℕ, ◌-◌, ◌==◌, nat_eq, nat_le, nat_lt, not, Bool, true, false, ◌&&◌, ◌||◌, List, [], ◌∷◌, length, Option, Some, None, option_map, option_and_then, if◌then◌else◌, codes}
use Rattle.std.specs.List.{list_any, starts_with, ends_with, slice_range}
use Rattle.std.specs.Str.{bytes_eq}
use Rattle.std.specs.Result.{result_ok}
use Rattle.hex.specs.Hex.{decode_of}
use Rattle.scql_base.specs.Name.{name_of}
use Rattle.scql_base.specs.Octets.{within}
use Rattle.scql_base.specs.declared.words.Comparison.{Comparison}
use Rattle.scql_base.specs.declared.words.Comparison.TheVariants.{Equal, Less, Greater, AtMost, AtLeast, NotEqual}
use Rattle.scql_base.specs.declared.words.Profile.{Profile}
use Rattle.scql_base.specs.declared.words.Profile.TheVariants.{Dboo, Dbbu}
use Rattle.scql_base.specs.declared.words.Subject.{Subject}
use Rattle.scql_base.specs.declared.words.Subject.TheVariants.{Objects, Users, Grants}
use Rattle.script.specs.Tokens.{is_quote}

-- the name that octets are, where it isn't among these
abbrev pub is_among : List ℕ → List (List ℕ) → Bool
is_among octets names = list_any (λ name. bytes_eq name octets) names

abbrev pub new_name_of : List (List ℕ) → List ℕ → Option (List ℕ)
new_name_of names octets = if is_among octets names then None else name_of octets

abbrev pub with_octet : ℕ → Option (List ℕ) → Option (List ℕ)
with_octet octet value = option_map (λ octets. octet ∷ octets) value

-- an octet between a literal's quotes, with what those behind it stand for; two quotes stand for one, and one stands for nothing
abbrev pub with_inner : Bool → ℕ → Option (List ℕ) → Option (List ℕ)
with_inner false octet value = if is_quote octet then value else with_octet octet value
with_inner true octet value = if is_quote octet then with_octet octet value else None

-- what octets between a literal's quotes stand for, or those behind the first of two quotes
unfoldable pub undoubled : Bool → List ℕ → Option (List ℕ)
undoubled false [] = Some []
undoubled true [] = None
undoubled behind (octet ∷ rest) = with_inner behind octet (undoubled (is_quote octet && not behind) rest)

abbrev pub text_of : List ℕ → Option (List ℕ)
text_of inner = option_and_then (within 200) (undoubled false inner)

abbrev pub hexadecimal_of : List ℕ → Option (List ℕ)
hexadecimal_of digits = if nat_le (length digits) 400 then result_ok (decode_of digits) else None

-- the octets that a literal stands for, of which it has at most 200
abbrev pub literal_of : List ℕ → Option (List ℕ)
literal_of octets =
    if nat_lt (length octets) 2 || not (ends_with nat_eq octets (codes "'")) then None
    else if starts_with nat_eq octets (codes "'") then text_of (slice_range octets 1 (length octets - 1))
    else if starts_with nat_eq octets (codes "X'") && nat_lt 2 (length octets) then hexadecimal_of (slice_range octets 2 (length octets - 1))
    else None

-- a secret that is presented has an octet, and one that a user gets has none or 4 to 8
abbrev pub presented : List ℕ → Option (List ℕ)
presented secret = if length secret == 0 then None else within 255 secret

abbrev pub given : List ℕ → Option (List ℕ)
given secret = if length secret == 0 || nat_le 4 (length secret) then within 8 secret else None

abbrev pub presented_secret_of : List ℕ → Option (List ℕ)
presented_secret_of octets = option_and_then presented (literal_of octets)

abbrev pub given_secret_of : List ℕ → Option (List ℕ)
given_secret_of octets = option_and_then given (literal_of octets)

abbrev pub comparison_of : List ℕ → Option Comparison
comparison_of octets =
    if bytes_eq octets (codes "=") then Some Equal
    else if bytes_eq octets (codes "<") then Some Less
    else if bytes_eq octets (codes ">") then Some Greater
    else if bytes_eq octets (codes "<=") then Some AtMost
    else if bytes_eq octets (codes ">=") then Some AtLeast
    else if bytes_eq octets (codes "<>") then Some NotEqual
    else None

-- a privilege's bit: 1 SELECT, 2 INSERT, 4 UPDATE, 8 DELETE
abbrev pub privilege_of : List ℕ → Option ℕ
privilege_of octets =
    if bytes_eq octets (codes "SELECT") then Some 1
    else if bytes_eq octets (codes "INSERT") then Some 2
    else if bytes_eq octets (codes "UPDATE") then Some 4
    else if bytes_eq octets (codes "DELETE") then Some 8
    else None

abbrev pub subject_of : List ℕ → Option Subject
subject_of octets =
    if bytes_eq octets (codes "O") then Some Objects
    else if bytes_eq octets (codes "U") then Some Users
    else if bytes_eq octets (codes "P") then Some Grants
    else None

abbrev pub profile_of : List ℕ → Option Profile
profile_of octets =
    if bytes_eq octets (codes "DBOO") then Some Dboo
    else if bytes_eq octets (codes "DBBU") then Some Dbbu
    else None

-- the number of a channel that opens and closes, and of any
abbrev pub further_channel_of : List ℕ → Option ℕ
further_channel_of octets =
    if bytes_eq octets (codes "1") then Some 1
    else if bytes_eq octets (codes "2") then Some 2
    else if bytes_eq octets (codes "3") then Some 3
    else None

abbrev pub channel_of : List ℕ → Option ℕ
channel_of octets = if bytes_eq octets (codes "0") then Some 0 else further_channel_of octets
