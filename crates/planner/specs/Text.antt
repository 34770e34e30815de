-- What the terminal prints: values, rows, closing lines and faults.
use Rattle.std.specs.Prelude.{ℕ, ◌/◌, ◌%◌, ◌==◌, nat_le, ◌&&◌, Bool, List, [], ◌∷◌, ◌++◌, map, if◌then◌else◌, codes}
use Rattle.std.specs.List.{concat, flat_map, list_all}
use Rattle.std.specs.Fmt.{decimal}
use Rattle.hex.specs.Hex.{encode_upper}
use Rattle.scql_base.specs.declared.words.StatusWord.{StatusWord}
use Rattle.scql_model.specs.Matching.{Values}
use Rattle.script.specs.declared.fault.ScriptFault.{ScriptFault}
use Rattle.script.specs.declared.fault.ScriptFault.TheVariants.{At, TooLarge}
use Rattle.planner.specs.declared.closing.Closing.{Closing}
use Rattle.planner.specs.declared.closing.Closing.TheVariants.{Nothing, Fine, Rows, Cut, Refused}
use Rattle.planner.specs.Meaning.{Meaning}

-- A value whose octets are all printed characters of ASCII stands between quotes, where two stand for one; any other is hexadecimal.

abbrev pub is_printed : ℕ → Bool
is_printed octet = nat_le 0x20 octet && nat_le octet 0x7E

abbrev pub quoted : ℕ → List ℕ
quoted octet = if octet == 0x27 then codes "''" else octet ∷ []

abbrev pub value_text : List ℕ → List ℕ
value_text value =
    if list_all is_printed value then codes "'" ++ (flat_map quoted value ++ codes "'")
    else codes "X'" ++ (encode_upper value ++ codes "'")

-- a row is its values, with a comma and a space between them, on a line
abbrev pub values_text : Values → List ℕ
values_text [] = []
values_text (value ∷ []) = value_text value
values_text (value ∷ next ∷ rest) = value_text value ++ (codes ", " ++ values_text (next ∷ rest))

abbrev pub row_text : Values → List ℕ
row_text values = values_text values ++ codes "\n"

abbrev pub word_octets : StatusWord → List ℕ
word_octets word = (word.word / 256) ∷ (word.word % 256) ∷ []

abbrev pub count_text : ℕ → List ℕ
count_text number = codes "rows " ++ (decimal number ++ codes "\n")

abbrev pub closing_text : Closing → List ℕ
closing_text Nothing = []
closing_text Fine = codes "ok\n"
closing_text (Rows number) = count_text number
closing_text (Cut number) = count_text number
closing_text (Refused word) = codes "refused " ++ (encode_upper (word_octets word) ++ codes "\n")

abbrev pub meaning_text : Meaning → List ℕ
meaning_text meaning = concat (map row_text meaning.rows) ++ closing_text meaning.closing

abbrev pub fault_text : ScriptFault → List ℕ
fault_text (At place) = codes "error at " ++ (decimal place ++ codes "\n")
fault_text TooLarge = codes "error too large\n"
