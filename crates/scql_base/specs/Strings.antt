-- Parameters: octet strings, each spelled as its length in one octet and its octets.
use Rattle.std.specs.Prelude.{◌≡◌, ℕ, zero, suc, nat_lt, List, [], ◌∷◌, length, take, drop, Option, Some, None, option_map, unwrap_or, if◌then◌else◌}
use Rattle.std.specs.List.{flat_map}

abbrev pub spelled : List ℕ → List ℕ
spelled string = length string ∷ string

-- the spellings of the strings, joined, are the octets
abbrev pub AreParams : List ℕ → List (List ℕ) → Type 0
AreParams octets strings = octets ≡ flat_map spelled strings

-- the rest of a string, and the strings behind it; none where the octets don't split
abbrev pub Pieces : Type 0
Pieces = Option (List ℕ × List (List ℕ))

abbrev pub begun : Pieces → Pieces
begun None = None
begun (Some pieces) = Some ([], pieces.0 ∷ pieces.1)

abbrev pub with_octet : ℕ → Pieces → Pieces
with_octet octet None = None
with_octet octet (Some pieces) = Some (octet ∷ pieces.0, pieces.1)

abbrev pub strings_in : Pieces → Option (List (List ℕ))
strings_in None = None
strings_in (Some pieces) = Some pieces.1

-- the pieces of octets that begin inside a string, of which so many octets are still to come
unfoldable pub pieces_of : ℕ → List ℕ → Pieces
pieces_of zero [] = Some ([], [])
pieces_of (suc n) [] = None
pieces_of zero (octet ∷ octets) = begun (pieces_of octet octets)
pieces_of (suc n) (octet ∷ octets) = with_octet octet (pieces_of n octets)

-- the strings whose spellings are the octets
unfoldable pub params_of : List ℕ → Option (List (List ℕ))
params_of octets = strings_in (pieces_of 0 octets)

-- the first string and the octets behind it
abbrev pub first_of : List ℕ → Option (List ℕ × List ℕ)
first_of [] = None
first_of (len ∷ octets) = if nat_lt (length octets) len then None else Some (take len octets, drop len octets)

-- the strings with one before them
abbrev pub with_string : List ℕ → Option (List (List ℕ)) → Option (List (List ℕ))
with_string string strings = option_map (λ rest. string ∷ rest) strings

-- the strings, and none where the octets don't split
abbrev pub strings_of : List ℕ → List (List ℕ)
strings_of octets = unwrap_or (params_of octets) []
