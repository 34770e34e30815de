-- Names and parameters of known octets.
use Rattle.std.proofs.Common.{◌≡◌, [], ◌∷◌, Some, None, true, false, refl}
use Rattle.scql_base.specs.Words.{done, more_left, wrong_le}
use Rattle.scql_base.specs.Name.{is_name}
use Rattle.scql_base.specs.Strings.{pieces_of, params_of}

-- OWNER, A_1 and eight letters are names
owner : is_name (0x4F ∷ 0x57 ∷ 0x4E ∷ 0x45 ∷ 0x52 ∷ []) ≡ true
owner = refl

with_digit : is_name (0x41 ∷ 0x5F ∷ 0x31 ∷ []) ≡ true
with_digit = refl

eight : is_name (0x41 ∷ 0x42 ∷ 0x43 ∷ 0x44 ∷ 0x45 ∷ 0x46 ∷ 0x47 ∷ 0x48 ∷ []) ≡ true
eight = refl

-- no octets, 1A, _A, a and nine letters aren't
empty : is_name [] ≡ false
empty = refl

digit_first : is_name (0x31 ∷ 0x41 ∷ []) ≡ false
digit_first = refl

line_first : is_name (0x5F ∷ 0x41 ∷ []) ≡ false
line_first = refl

small : is_name (0x61 ∷ []) ≡ false
small = refl

nine : is_name (0x41 ∷ 0x42 ∷ 0x43 ∷ 0x44 ∷ 0x45 ∷ 0x46 ∷ 0x47 ∷ 0x48 ∷ 0x49 ∷ []) ≡ false
nine = refl

-- two strings, no strings, an empty string, one octet too few, one left over
two : params_of (2 ∷ 0x41 ∷ 0x42 ∷ 1 ∷ 0x43 ∷ []) ≡ Some ((0x41 ∷ 0x42 ∷ []) ∷ (0x43 ∷ []) ∷ [])
unfolding pieces_of params_of
two = refl

none : params_of [] ≡ Some []
unfolding pieces_of params_of
none = refl

one_empty : params_of (0 ∷ []) ≡ Some ([] ∷ [])
unfolding pieces_of params_of
one_empty = refl

too_few : params_of (3 ∷ 0x41 ∷ 0x42 ∷ []) ≡ None
unfolding pieces_of params_of
too_few = refl

left_over : params_of (1 ∷ 0x41 ∷ 0x42 ∷ []) ≡ None
unfolding pieces_of params_of
left_over = refl

-- the words of an answer, of what is left of it, and of a wrong Le
word_done : done ≡ record { word = 0x9000 }
word_done = refl

words_more : more_left 252 ≡ record { word = 0x61FC }
words_more = refl

words_many : more_left 764 ≡ record { word = 0x6100 }
words_many = refl

words_wrong_le : wrong_le 3 ≡ record { word = 0x6C03 }
words_wrong_le = refl
