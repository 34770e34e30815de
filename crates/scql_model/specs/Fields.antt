-- Fields, of which the spellings of records are made.
use Rattle.std.specs.Prelude.{ℕ, zero, suc, ◌==◌, ◌^◌, nat_lt, ◌&&◌, Bool, true, List, [], ◌∷◌, ◌++◌, length, take, drop, Option, Some, None, option_map, option_and_then, if◌then◌else◌}
use Rattle.std.specs.Int.{w32, to_be_bytes, from_be_bytes}
use Rattle.std.specs.List.{list_all, flat_map}

-- how a value is spelled, which values are within the limits, and how one is read from the front of octets, with the octets behind it
pub record Field (A : Type 0) : Type 0 where
  pub spell : A → List ℕ
  pub fits : A → Bool
  pub read : List ℕ → Option (A × List ℕ)

-- a number in four octets, the highest first
abbrev pub number_from : List ℕ → Option (ℕ × List ℕ)
number_from (a ∷ b ∷ c ∷ d ∷ rest) = Some (from_be_bytes w32 (a ∷ b ∷ c ∷ d ∷ []), rest)
number_from octets = None

abbrev pub number : Field ℕ
number = record { spell = λ n. to_be_bytes w32 n; fits = λ n. nat_lt n (2 ^ 32); read = number_from }

-- one octet that passes a test
abbrev pub octet_at : (ℕ → Bool) → List ℕ → Option (ℕ × List ℕ)
octet_at test [] = None
octet_at test (octet ∷ rest) = if test octet then Some (octet, rest) else None

abbrev pub octet : (ℕ → Bool) → Field ℕ
octet test = record { spell = λ n. n ∷ []; fits = test; read = octet_at test }

-- one octet that stands for a value
abbrev pub with_rest : {A : Type 0} → List ℕ → A → A × List ℕ
with_rest rest x = (x, rest)

abbrev pub letter_at : {A : Type 0} → (ℕ → Option A) → List ℕ → Option (A × List ℕ)
letter_at value [] = None
letter_at value (octet ∷ rest) = option_map (with_rest rest) (value octet)

abbrev pub letter : {A : Type 0} → (A → ℕ) → (ℕ → Option A) → Field A
letter {A} code value = record { spell = λ (x : A). code x ∷ []; fits = λ (x : A). true; read = letter_at value }

-- a text: a length octet and that many octets, which pass a test
abbrev pub text_at : (List ℕ → Bool) → List ℕ → Option (List ℕ × List ℕ)
text_at test [] = None
text_at test (len ∷ octets) =
    if nat_lt (length octets) len then None
    else if test (take len octets) then Some (take len octets, drop len octets)
    else None

abbrev pub text : (List ℕ → Bool) → Field (List ℕ)
text test = record { spell = λ octets. length octets ∷ octets; fits = test; read = text_at test }

-- one field and then another
abbrev pub then_at : {A B : Type 0} → (List ℕ → Option (A × List ℕ)) → (List ℕ → Option (B × List ℕ)) → List ℕ → Option ((A × B) × List ℕ)
then_at {A} {B} f g octets =
    option_and_then (λ (x : A × List ℕ). option_map (λ (y : B × List ℕ). ((x.0, y.0), y.1)) (g x.1)) (f octets)

infixr 6 ◌then◌
abbrev pub ◌then◌ : {A B : Type 0} → Field A → Field B → Field (A × B)
◌then◌ {A} {B} f g = record {
  spell = λ (x : A × B). f.spell x.0 ++ g.spell x.1;
  fits = λ (x : A × B). f.fits x.0 && g.fits x.1;
  read = then_at f.read g.read;
}

-- so many of a field
abbrev pub with_front : {A : Type 0} → A → List A × List ℕ → List A × List ℕ
with_front x r = (x ∷ r.0, r.1)

abbrev pub many_at : {A : Type 0} → (List ℕ → Option (A × List ℕ)) → ℕ → List ℕ → Option (List A × List ℕ)
many_at f zero octets = Some ([], octets)
many_at {A} f (suc count) octets =
    option_and_then (λ (x : A × List ℕ). option_map (with_front x.0) (many_at f count x.1)) (f octets)

-- an octet that counts, and then that many of a field
abbrev pub counted_at : {A : Type 0} → (ℕ → Bool) → (List ℕ → Option (A × List ℕ)) → List ℕ → Option (List A × List ℕ)
counted_at test f [] = None
counted_at test f (count ∷ octets) = if test count then many_at f count octets else None

abbrev pub counted_list : {A : Type 0} → (ℕ → Bool) → Field A → Field (List A)
counted_list {A} test f = record {
  spell = λ (xs : List A). length xs ∷ flat_map f.spell xs;
  fits = λ (xs : List A). test (length xs) && list_all f.fits xs;
  read = counted_at test f.read;
}

-- a record of the parts that a field spells
abbrev pub made_at : {A B : Type 0} → (A → B) → (List ℕ → Option (A × List ℕ)) → List ℕ → Option (B × List ℕ)
made_at {A} {B} to f octets = option_map (λ (x : A × List ℕ). (to x.0, x.1)) (f octets)

abbrev pub as_record : {A B : Type 0} → (A → B) → (B → A) → Field A → Field B
as_record {A} {B} to from f = record {
  spell = λ (x : B). f.spell (from x);
  fits = λ (x : B). f.fits (from x);
  read = made_at to f.read;
}

-- a first octet that tells the kind of a record
abbrev pub marked_at : {A : Type 0} → ℕ → (List ℕ → Option (A × List ℕ)) → List ℕ → Option (A × List ℕ)
marked_at mark f [] = None
marked_at mark f (octet ∷ octets) = if octet == mark then f octets else None

abbrev pub with_mark : {A : Type 0} → ℕ → Field A → Field A
with_mark {A} mark f = record { spell = λ (x : A). mark ∷ f.spell x; fits = f.fits; read = marked_at mark f.read }

-- what a reader gives of octets of which nothing is left over
abbrev pub whole : {A : Type 0} → (List ℕ → Option (A × List ℕ)) → List ℕ → Option A
whole {A} read octets = option_and_then (λ (x : A × List ℕ). if length x.1 == 0 then Some x.0 else None) (read octets)
