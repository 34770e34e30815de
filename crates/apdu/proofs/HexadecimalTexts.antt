-- Hexadecimal texts, octet by octet, and their digits in upper case.
use Rattle.std.proofs.Common.{◌≡◌, ℕ, zero, suc, ◌/◌, ◌%◌, List, [], ◌∷◌, ◌++◌, map, get_or, refl, sym, ap, ◌∙◌}
use Rattle.std.specs.Prelude.{slice_index}
use Rattle.std.specs.Char.{to_ascii_uppercase}
use Rattle.hex.specs.Hex.{encode_lower, encode_upper, encode_with, lower_digits}

digit-upper : (digits : List ℕ) (k : ℕ) → to_ascii_uppercase (get_or digits k 0) ≡ get_or (map to_ascii_uppercase digits) k 0
digit-upper [] k = refl
digit-upper (d ∷ digits) zero = refl
digit-upper (d ∷ digits) (suc k) = digit-upper digits k

pub upper_of_lower : (octets : List ℕ) → map to_ascii_uppercase (encode_lower octets) ≡ encode_upper octets
unfolding encode_with
upper_of_lower [] = refl
upper_of_lower (octet ∷ octets) = rw (digit-upper lower_digits (octet / 16), digit-upper lower_digits (octet % 16), upper_of_lower octets) refl

encode-append : (first rest : List ℕ) → encode_lower (first ++ rest) ≡ encode_lower first ++ encode_lower rest
unfolding encode_with
encode-append [] rest = refl
encode-append (octet ∷ first) rest = ap (λ (text : List ℕ). slice_index lower_digits (octet / 16) ∷ slice_index lower_digits (octet % 16) ∷ text) (encode-append first rest)

-- the digits of a body and of a word, in upper case, are those of the one behind the other
pub both-upper : (body word : List ℕ) → map to_ascii_uppercase (encode_lower body ++ encode_lower word) ≡ encode_upper (body ++ word)
both-upper body word = ap (map to_ascii_uppercase) (sym (encode-append body word)) ∙ upper_of_lower (body ++ word)
