-- What a field owes: what is read of octets is spelled by them and is within the limits, and what is spelled is read back.
-- It is proved once for each way to make a field.
use Rattle.std.proofs.Common.{◌≡◌, ℕ, zero, suc, ◌+◌, ◌<◌, ◌≤◌, ◌^◌, nat_lt, ◌==◌, Bool, true, false, List, [], ◌∷◌, ◌++◌, length, take, drop, get_or, Option, Some, None, option_map, IfSome, if◌then◌else◌, refl, sym, ◌∙◌, ap, subst, arith, append-nil}
use Rattle.std.specs.Int.{w32, to_be_bytes, from_be_bytes}
use Rattle.std.specs.List.{flat_map, list_all}
use Rattle.std.specs.Option.{option_and_then}
use Rattle.std.proofs.lemmas.Bool.{and_parts, and_from, cond-true, ltb-true, ltb-false, lt-ltb, le-ltb, eqb-true, eq-eqb}
use Rattle.std.proofs.lemmas.List.{append_assoc, length-take-le, take-append-drop, length-append, get_or-drop}
use Rattle.std.proofs.lemmas.Nat.{be_bytes_4, from_be_bytes-to_be_bytes_4}
use Rattle.std.proofs.lemmas.Option.{none-some, same_Some, option_and_then_some}
use Rattle.std.proofs.Math.Seq.{take-append_seam, drop-append_seam}
use Rattle.scql_model.specs.Fields.{Field, number, octet, letter, text, ◌then◌, counted_list, as_record, with_mark, whole, with_rest, with_front, many_at}
use Rattle.scql_model.specs.Records.{values_to_the_end, no_rest, is_row}
use Rattle.scql_base.specs.Strings.{spelled, params_of}
use Rattle.scql_base.proofs.Splitting.{AreParams-from_params_of, params_of-again}

-- each of the numbers is an octet
abbrev pub AreOctets : List ℕ → Type 0
AreOctets octets = (i : ℕ) → get_or octets i 0 < 256

-- the octets begin with the spelling of a value within the limits, and the rest is behind it
pub record Took {A : Type 0} (f : Field A) (octets : List ℕ) (x : A) (rest : List ℕ) : Type 0 where
  pub spelling : octets ≡ f.spell x ++ rest
  pub fits : f.fits x ≡ true
  pub behind : AreOctets rest

abbrev pub TakesField : {A : Type 0} → Field A → Type 0
TakesField {A} f = (octets : List ℕ) (x : A) (rest : List ℕ) → AreOctets octets → f.read octets ≡ Some (x, rest) → Took f octets x rest

abbrev pub Again : {A : Type 0} → Field A → Type 0
Again {A} f = (x : A) (rest : List ℕ) → f.fits x ≡ true → f.read (f.spell x ++ rest) ≡ Some (x, rest)

abbrev pub AgainAtEnd : {A : Type 0} → Field A → Type 0
AgainAtEnd {A} f = (x : A) → f.fits x ≡ true → f.read (f.spell x) ≡ Some (x, [])

-- what a field owes that others may follow
pub record IsField {A : Type 0} (f : Field A) : Type 0 where
  pub takes : TakesField f
  pub again : Again f

-- what a field owes that goes to the end of the octets, so that none may follow
pub record IsLastField {A : Type 0} (f : Field A) : Type 0 where
  pub takes : TakesField f
  pub again : AgainAtEnd f

pub IsLastField-from_IsField : {A : Type 0} (f : Field A) → IsField f → IsLastField f
IsLastField-from_IsField {A} f is = record {
  takes = is.takes;
  again = λ (x : A) fits. ap f.read (sym (append-nil (f.spell x))) ∙ is.again x [] fits;
}

-- Options of which there is a value.
pub mapped_some : {A B P : Type 0} (f : A → B) (o : Option A) (y : B) → option_map f o ≡ Some y → ((x : A) → o ≡ Some x → f x ≡ y → P) → P
mapped_some f None y is then' = absurd (none-some y is)
mapped_some f (Some x) y is then' = then' x refl (same_Some (f x) y is)

pub chosen_some : {A : Type 0} (b : Bool) (o : Option A) (y : A) → (if b then o else None) ≡ Some y → (b ≡ true) × (o ≡ Some y)
chosen_some true o y is = (refl, is)
chosen_some false o y is = absurd (none-some y is)

pub not_chosen_some : {A : Type 0} (b : Bool) (o : Option A) (y : A) → (if b then None else o) ≡ Some y → (b ≡ false) × (o ≡ Some y)
not_chosen_some true o y is = absurd (none-some y is)
not_chosen_some false o y is = (refl, is)

-- Octets behind octets.
AreOctets-behind : (octet : ℕ) (octets : List ℕ) → AreOctets (octet ∷ octets) → AreOctets octets
AreOctets-behind octet octets are = λ i. are (suc i)

AreOctets-drop : (n : ℕ) (octets : List ℕ) → AreOctets octets → AreOctets (drop n octets)
AreOctets-drop n octets are = λ i. rw (get_or-drop n octets i 0) (are (n + i))

AreOctets-none : AreOctets []
AreOctets-none = λ i. omega arith

took_as : {A : Type 0} (f : Field A) (octets : List ℕ) (p q : A × List ℕ) → Took f octets p.0 p.1 → p ≡ q → Took f octets q.0 q.1
took_as {A} f octets p q took same = subst (λ (r : A × List ℕ). Took f octets r.0 r.1) same took

-- A number.
first_four : (a b c d : ℕ) (rest : List ℕ) → AreOctets (a ∷ b ∷ c ∷ d ∷ rest) → AreOctets (a ∷ b ∷ c ∷ d ∷ [])
first_four a b c d rest are zero = are 0
first_four a b c d rest are (suc zero) = are 1
first_four a b c d rest are (suc (suc zero)) = are 2
first_four a b c d rest are (suc (suc (suc zero))) = are 3
first_four a b c d rest are (suc (suc (suc (suc i)))) = omega arith

of_four : (a b c d : ℕ) → a < 256 → b < 256 → c < 256 → d < 256 → from_be_bytes w32 (a ∷ b ∷ c ∷ d ∷ []) < 2 ^ 32
of_four a b c d a-small b-small c-small d-small = omega arith

number_took : (a b c d : ℕ) (rest : List ℕ) → AreOctets (a ∷ b ∷ c ∷ d ∷ rest) → Took number (a ∷ b ∷ c ∷ d ∷ rest) (from_be_bytes w32 (a ∷ b ∷ c ∷ d ∷ [])) rest
number_took a b c d rest are =
    let n : ℕ = from_be_bytes w32 (a ∷ b ∷ c ∷ d ∷ []) in
    let four : to_be_bytes w32 n ≡ a ∷ b ∷ c ∷ d ∷ [] = be_bytes_4 (a ∷ b ∷ c ∷ d ∷ []) n refl (first_four a b c d rest are) refl in
    record {
      spelling = ap (λ (front : List ℕ). front ++ rest) (sym four);
      fits = lt-ltb n (2 ^ 32) (of_four a b c d (are 0) (are 1) (are 2) (are 3));
      behind = λ i. are (suc (suc (suc (suc i))));
    }

takes-number : TakesField number
takes-number [] x rest are is = absurd (none-some (x, rest) is)
takes-number (a ∷ []) x rest are is = absurd (none-some (x, rest) is)
takes-number (a ∷ b ∷ []) x rest are is = absurd (none-some (x, rest) is)
takes-number (a ∷ b ∷ c ∷ []) x rest are is = absurd (none-some (x, rest) is)
takes-number (a ∷ b ∷ c ∷ d ∷ octets) x rest are is =
    let n : ℕ = from_be_bytes w32 (a ∷ b ∷ c ∷ d ∷ []) in
    took_as number (a ∷ b ∷ c ∷ d ∷ octets) (n, octets) (x, rest) (number_took a b c d octets are) (same_Some (n, octets) (x, rest) is)

again-number : Again number
again-number x rest fits = ap (λ (n : ℕ). Some (n, rest)) (from_be_bytes-to_be_bytes_4 x (ltb-true x (2 ^ 32) fits))

pub IsField-number : IsField number
IsField-number = record { takes = takes-number; again = again-number }

-- An octet that passes a test.
takes-octet : (test : ℕ → Bool) → TakesField (octet test)
takes-octet test [] x rest are is = absurd (none-some (x, rest) is)
takes-octet test (first ∷ octets) x rest are is =
    let passes = chosen_some (test first) (Some (first, octets)) (x, rest) is in
    let took : Took (octet test) (first ∷ octets) first octets = record { spelling = refl; fits = passes.0; behind = AreOctets-behind first octets are } in
    took_as (octet test) (first ∷ octets) (first, octets) (x, rest) took (same_Some (first, octets) (x, rest) passes.1)

pub IsField-octet : (test : ℕ → Bool) → IsField (octet test)
IsField-octet test = record {
  takes = takes-octet test;
  again = λ x rest fits. cond-true (test x) (Some (x, rest)) None fits;
}

-- An octet that stands for a value.
abbrev pub Codes : {A : Type 0} → (A → ℕ) → (ℕ → Option A) → Type 0
Codes {A} code value = (x : A) → value (code x) ≡ Some x

abbrev pub CodesAlone : {A : Type 0} → (A → ℕ) → (ℕ → Option A) → Type 0
CodesAlone {A} code value = (n : ℕ) (x : A) → value n ≡ Some x → n ≡ code x

takes-letter : {A : Type 0} (code : A → ℕ) (value : ℕ → Option A) → CodesAlone code value → TakesField (letter code value)
takes-letter code value alone [] x rest are is = absurd (none-some (x, rest) is)
takes-letter {A} code value alone (first ∷ octets) x rest are is =
    mapped_some (with_rest octets) (value first) (x, rest) is (λ (y : A) at same.
    let took : Took (letter code value) (first ∷ octets) y octets
    = record { spelling = ap (λ (n : ℕ). n ∷ octets) (alone first y at); fits = refl; behind = AreOctets-behind first octets are } in
    took_as (letter code value) (first ∷ octets) (y, octets) (x, rest) took same)

pub IsField-letter : {A : Type 0} (code : A → ℕ) (value : ℕ → Option A) → Codes code value → CodesAlone code value → IsField (letter code value)
IsField-letter {A} code value codes alone = record {
  takes = takes-letter code value alone;
  again = λ (x : A) rest fits. ap (option_map (with_rest rest)) (codes x);
}

-- A text.
text_took : (test : List ℕ → Bool) (len : ℕ) (octets : List ℕ) → AreOctets octets → len ≤ length octets → test (take len octets) ≡ true
    → Took (text test) (len ∷ octets) (take len octets) (drop len octets)
text_took test len octets are enough passes = record {
  spelling = ap (λ (n : ℕ). n ∷ octets) (sym (length-take-le len octets enough)) ∙ ap (λ (back : List ℕ). length (take len octets) ∷ back) (sym (take-append-drop len octets));
  fits = passes;
  behind = AreOctets-drop len octets are;
}

takes-text : (test : List ℕ → Bool) → TakesField (text test)
takes-text test [] x rest are is = absurd (none-some (x, rest) is)
takes-text test (len ∷ octets) x rest are is =
    let enough = not_chosen_some (nat_lt (length octets) len) (if test (take len octets) then Some (take len octets, drop len octets) else None) (x, rest) is in
    let passes = chosen_some (test (take len octets)) (Some (take len octets, drop len octets)) (x, rest) enough.1 in
    let took = text_took test len octets (AreOctets-behind len octets are) (ltb-false (length octets) len enough.0) passes.0 in
    took_as (text test) (len ∷ octets) (take len octets, drop len octets) (x, rest) took (same_Some (take len octets, drop len octets) (x, rest) passes.1)

again-text : (test : List ℕ → Bool) → Again (text test)
again-text test x rest fits =
    let enough : nat_lt (length (x ++ rest)) (length x) ≡ false = le-ltb (length (x ++ rest)) (length x) (omega (arith, length-append x rest)) in
    rw (enough, take-append_seam x rest, drop-append_seam x rest, fits) refl

pub IsField-text : (test : List ℕ → Bool) → IsField (text test)
IsField-text test = record { takes = takes-text test; again = again-text test }

-- One field and then another.
then_took : {A B : Type 0} (f : Field A) (g : Field B) (octets : List ℕ) (a : A × List ℕ) (b : B × List ℕ) → Took f octets a.0 a.1 → Took g a.1 b.0 b.1
    → Took (f then g) octets (a.0, b.0) b.1
then_took f g octets a b first second = record {
  spelling = first.spelling ∙ (ap (λ (back : List ℕ). f.spell a.0 ++ back) second.spelling ∙ sym (append_assoc (f.spell a.0) (g.spell b.0) b.1));
  fits = and_from (f.fits a.0) (g.fits b.0) first.fits second.fits;
  behind = second.behind;
}

abbrev behind_first : {A B : Type 0} → Field B → A × List ℕ → Option ((A × B) × List ℕ)
behind_first {A} {B} g a = option_map (λ (b : B × List ℕ). ((a.0, b.0), b.1)) (g.read a.1)

takes-then : {A B : Type 0} (f : Field A) (g : Field B) → TakesField f → TakesField g → TakesField (f then g)
takes-then {A} {B} f g first second octets x rest are is =
    option_and_then_some (behind_first {A = A} g) (f.read octets) (x, rest) is (λ (a : A × List ℕ) at is'.
    let took = first octets a.0 a.1 are at in
    mapped_some (λ (b : B × List ℕ). ((a.0, b.0), b.1)) (g.read a.1) (x, rest) is' (λ (b : B × List ℕ) at' same.
    took_as (f then g) octets ((a.0, b.0), b.1) (x, rest) (then_took f g octets a b took (second a.1 b.0 b.1 took.behind at')) same))

again-then : {A B : Type 0} (f : Field A) (g : Field B) → Again f → Again g → Again (f then g)
again-then {A} {B} f g first second x rest fits =
    let parts = and_parts (f.fits x.0) (g.fits x.1) fits in
    let front : f.read ((f.spell x.0 ++ g.spell x.1) ++ rest) ≡ Some (x.0, g.spell x.1 ++ rest)
    = ap f.read (append_assoc (f.spell x.0) (g.spell x.1) rest) ∙ first x.0 (g.spell x.1 ++ rest) parts.0 in
    ap (option_and_then (behind_first {A = A} g)) front ∙ ap (option_map (λ (b : B × List ℕ). ((x.0, b.0), b.1))) (second x.1 rest parts.1)

again_at_end-then : {A B : Type 0} (f : Field A) (g : Field B) → Again f → AgainAtEnd g → AgainAtEnd (f then g)
again_at_end-then {A} {B} f g first second x fits =
    let parts = and_parts (f.fits x.0) (g.fits x.1) fits in
    ap (option_and_then (behind_first {A = A} g)) (first x.0 (g.spell x.1) parts.0) ∙ ap (option_map (λ (b : B × List ℕ). ((x.0, b.0), b.1))) (second x.1 parts.1)

pub IsField-then : {A B : Type 0} (f : Field A) (g : Field B) → IsField f → IsField g → IsField (f then g)
IsField-then f g first second = record { takes = takes-then f g first.takes second.takes; again = again-then f g first.again second.again }

pub IsLastField-then : {A B : Type 0} (f : Field A) (g : Field B) → IsField f → IsLastField g → IsLastField (f then g)
IsLastField-then f g first second = record { takes = takes-then f g first.takes second.takes; again = again_at_end-then f g first.again second.again }

-- So many of a field.
record TookMany {A : Type 0} (f : Field A) (count : ℕ) (octets : List ℕ) (xs : List A) (rest : List ℕ) : Type 0 where
  many : length xs ≡ count
  spelling : octets ≡ flat_map f.spell xs ++ rest
  fits : list_all f.fits xs ≡ true
  behind : AreOctets rest

took_one_more : {A : Type 0} (f : Field A) (count : ℕ) (octets : List ℕ) (a : A × List ℕ) (more : List A × List ℕ) → Took f octets a.0 a.1 → TookMany f count a.1 more.0 more.1
    → TookMany f (suc count) octets (a.0 ∷ more.0) more.1
took_one_more f count octets a more first others = record {
  many = ap (λ (n : ℕ). suc n) others.many;
  spelling = first.spelling ∙ (ap (λ (back : List ℕ). f.spell a.0 ++ back) others.spelling ∙ sym (append_assoc (f.spell a.0) (flat_map f.spell more.0) more.1));
  fits = and_from (f.fits a.0) (list_all f.fits more.0) first.fits others.fits;
  behind = others.behind;
}

abbrev behind_one : {A : Type 0} → Field A → ℕ → A × List ℕ → Option (List A × List ℕ)
behind_one f count a = option_map (with_front a.0) (many_at f.read count a.1)

takes-many : {A : Type 0} (f : Field A) → TakesField f → (count : ℕ) (octets : List ℕ) (r : List A × List ℕ) → AreOctets octets → many_at f.read count octets ≡ Some r
    → TookMany f count octets r.0 r.1
takes-many {A} f takes zero octets r are is =
    let none : TookMany f 0 octets [] octets = record { many = refl; spelling = refl; fits = refl; behind = are } in
    subst (λ (r : List A × List ℕ). TookMany f 0 octets r.0 r.1) (same_Some ([], octets) r is) none
takes-many {A} f takes (suc count) octets r are is =
    option_and_then_some (behind_one f count) (f.read octets) r is (λ (a : A × List ℕ) at is'.
    let took = takes octets a.0 a.1 are at in
    mapped_some (with_front a.0) (many_at f.read count a.1) r is' (λ (more : List A × List ℕ) at' same.
    subst (λ (r : List A × List ℕ). TookMany f (suc count) octets r.0 r.1) same (took_one_more f count octets a more took (takes-many f takes count a.1 more took.behind at'))))

again-many : {A : Type 0} (f : Field A) → Again f → (xs : List A) (rest : List ℕ) → list_all f.fits xs ≡ true → many_at f.read (length xs) (flat_map f.spell xs ++ rest) ≡ Some (xs, rest)
again-many f again [] rest fits = refl
again-many f again (x ∷ xs) rest fits =
    let parts = and_parts (f.fits x) (list_all f.fits xs) fits in
    let front : f.read ((f.spell x ++ flat_map f.spell xs) ++ rest) ≡ Some (x, flat_map f.spell xs ++ rest)
    = ap f.read (append_assoc (f.spell x) (flat_map f.spell xs) rest) ∙ again x (flat_map f.spell xs ++ rest) parts.0 in
    ap (option_and_then (behind_one f (length xs))) front ∙ ap (option_map (with_front x)) (again-many f again xs rest parts.1)

-- An octet that counts, and then that many of a field.
counted_took : {A : Type 0} (test : ℕ → Bool) (f : Field A) (count : ℕ) (octets : List ℕ) (xs : List A) (rest : List ℕ) → test count ≡ true → TookMany f count octets xs rest
    → Took (counted_list test f) (count ∷ octets) xs rest
counted_took test f count octets xs rest passes took = record {
  spelling = ap (λ (n : ℕ). n ∷ octets) (sym took.many) ∙ ap (λ (back : List ℕ). length xs ∷ back) took.spelling;
  fits = and_from (test (length xs)) (list_all f.fits xs) (ap test took.many ∙ passes) took.fits;
  behind = took.behind;
}

takes-counted : {A : Type 0} (test : ℕ → Bool) (f : Field A) → TakesField f → TakesField (counted_list test f)
takes-counted test f takes [] x rest are is = absurd (none-some (x, rest) is)
takes-counted test f takes (count ∷ octets) x rest are is =
    let passes = chosen_some (test count) (many_at f.read count octets) (x, rest) is in
    counted_took test f count octets x rest passes.0 (takes-many f takes count octets (x, rest) (AreOctets-behind count octets are) passes.1)

again-counted : {A : Type 0} (test : ℕ → Bool) (f : Field A) → Again f → Again (counted_list test f)
again-counted test f again xs rest fits =
    let parts = and_parts (test (length xs)) (list_all f.fits xs) fits in
    cond-true (test (length xs)) (many_at f.read (length xs) (flat_map f.spell xs ++ rest)) None parts.0 ∙ again-many f again xs rest parts.1

pub IsField-counted : {A : Type 0} (test : ℕ → Bool) (f : Field A) → IsField f → IsField (counted_list test f)
IsField-counted test f is = record { takes = takes-counted test f is.takes; again = again-counted test f is.again }

-- A record of the parts that a field spells: what is made of a record's parts is the record, and what is of it its parts.
record_took : {A B : Type 0} (to : A → B) (from : B → A) (f : Field A) → ((x : A) → from (to x) ≡ x) → (octets : List ℕ) (a : A × List ℕ) → Took f octets a.0 a.1
    → Took (as_record to from f) octets (to a.0) a.1
record_took {A} to from f parts octets a took = record {
  spelling = took.spelling ∙ ap (λ (x : A). f.spell x ++ a.1) (sym (parts a.0));
  fits = ap f.fits (parts a.0) ∙ took.fits;
  behind = took.behind;
}

abbrev made : {A B : Type 0} → (A → B) → A × List ℕ → B × List ℕ
made to a = (to a.0, a.1)

takes-as_record : {A B : Type 0} (to : A → B) (from : B → A) (f : Field A) → ((x : A) → from (to x) ≡ x) → TakesField f → TakesField (as_record to from f)
takes-as_record {A} to from f parts takes octets x rest are is =
    mapped_some (made to) (f.read octets) (x, rest) is (λ (a : A × List ℕ) at same.
    took_as (as_record to from f) octets (to a.0, a.1) (x, rest) (record_took to from f parts octets a (takes octets a.0 a.1 are at)) same)

made_again : {A B : Type 0} (to : A → B) (from : B → A) → ((x : B) → to (from x) ≡ x) → (o : Option (A × List ℕ)) (x : B) (rest : List ℕ) → o ≡ Some (from x, rest)
    → option_map (made to) o ≡ Some (x, rest)
made_again {A} {B} to from restored o x rest is = ap (option_map (made to)) is ∙ ap (λ (y : B). Some (y, rest)) (restored x)

pub IsField-as_record : {A B : Type 0} (to : A → B) (from : B → A) (f : Field A) → ((x : A) → from (to x) ≡ x) → ((x : B) → to (from x) ≡ x) → IsField f
    → IsField (as_record to from f)
IsField-as_record {A} {B} to from f parts restored is = record {
  takes = takes-as_record to from f parts is.takes;
  again = λ (x : B) rest fits. made_again to from restored (f.read (f.spell (from x) ++ rest)) x rest (is.again (from x) rest fits);
}

pub IsLastField-as_record : {A B : Type 0} (to : A → B) (from : B → A) (f : Field A) → ((x : A) → from (to x) ≡ x) → ((x : B) → to (from x) ≡ x) → IsLastField f
    → IsLastField (as_record to from f)
IsLastField-as_record {A} {B} to from f parts restored is = record {
  takes = takes-as_record to from f parts is.takes;
  again = λ (x : B) fits. made_again to from restored (f.read (f.spell (from x))) x [] (is.again (from x) fits);
}

-- A first octet that tells the kind.
takes-marked : {A : Type 0} (mark : ℕ) (f : Field A) → TakesField f → TakesField (with_mark mark f)
takes-marked mark f takes [] x rest are is = absurd (none-some (x, rest) is)
takes-marked mark f takes (first ∷ octets) x rest are is =
    let kind = chosen_some (first == mark) (f.read octets) (x, rest) is in
    let took = takes octets x rest (AreOctets-behind first octets are) kind.1 in
    record {
      spelling = ap (λ (n : ℕ). n ∷ octets) (eqb-true first mark kind.0) ∙ ap (λ (back : List ℕ). mark ∷ back) took.spelling;
      fits = took.fits;
      behind = took.behind;
    }

marked_again : {A : Type 0} (mark : ℕ) (o : Option A) → (if mark == mark then o else None) ≡ o
marked_again mark o = cond-true (mark == mark) o None (eq-eqb mark mark refl)

pub IsField-marked : {A : Type 0} (mark : ℕ) (f : Field A) → IsField f → IsField (with_mark mark f)
IsField-marked {A} mark f is = record {
  takes = takes-marked mark f is.takes;
  again = λ (x : A) rest fits. marked_again mark (f.read (f.spell x ++ rest)) ∙ is.again x rest fits;
}

pub IsLastField-marked : {A : Type 0} (mark : ℕ) (f : Field A) → IsLastField f → IsLastField (with_mark mark f)
IsLastField-marked {A} mark f is = record {
  takes = takes-marked mark f is.takes;
  again = λ (x : A) fits. marked_again mark (f.read (f.spell x)) ∙ is.again x fits;
}

-- Values to the end.
takes-values_to_the_end : TakesField values_to_the_end
takes-values_to_the_end octets x rest are is =
    option_and_then_some no_rest (params_of octets) (x, rest) is (λ strings at is'.
    let kept = chosen_some (is_row strings) (Some (strings, [])) (x, rest) is' in
    let took : Took values_to_the_end octets strings [] = record {
      spelling = AreParams-from_params_of strings octets at ∙ sym (append-nil (flat_map spelled strings));
      fits = kept.0;
      behind = AreOctets-none;
    } in
    took_as values_to_the_end octets (strings, []) (x, rest) took (same_Some (strings, []) (x, rest) kept.1))

pub IsLastField-values_to_the_end : IsLastField values_to_the_end
IsLastField-values_to_the_end = record {
  takes = takes-values_to_the_end;
  again = λ (strings : List (List ℕ)) fits. ap (option_and_then no_rest) (params_of-again strings) ∙ cond-true (is_row strings) (Some (strings, [])) None fits;
}

-- Octets of which nothing is left over.
ends : {A : Type 0} (f : Field A) (octets : List ℕ) (x y : A) (rest : List ℕ) → Took f octets x rest → (if length rest == 0 then Some x else None) ≡ Some y
    → (octets ≡ f.spell y) × (f.fits y ≡ true)
ends f octets x y (first ∷ rest) took is =
    let none : length (first ∷ rest) ≡ 0 = eqb-true (length (first ∷ rest)) 0 (chosen_some (length (first ∷ rest) == 0) (Some x) y is).0 in
    absurd (omega (arith, none))
ends {A} f octets x y [] took is =
    let same : x ≡ y = same_Some x y is in
    let spelling : octets ≡ f.spell x = took.spelling ∙ append-nil (f.spell x) in
    (spelling ∙ ap f.spell same, ap f.fits (sym same) ∙ took.fits)

-- what is read of octets as a whole is within the limits, and they are its spelling
pub whole_took : {A : Type 0} (f : Field A) → IsLastField f → (octets : List ℕ) (x : A) → AreOctets octets → whole f.read octets ≡ Some x
    → (octets ≡ f.spell x) × (f.fits x ≡ true)
whole_took {A} f is octets x are read =
    option_and_then_some (λ (a : A × List ℕ). if length a.1 == 0 then Some a.0 else None) (f.read octets) x read (λ (a : A × List ℕ) at is'.
    ends f octets a.0 x a.1 (is.takes octets a.0 a.1 are at) is')

-- what is within the limits is read of its spelling
pub whole_again : {A : Type 0} (f : Field A) → IsLastField f → (x : A) → f.fits x ≡ true → whole f.read (f.spell x) ≡ Some x
whole_again {A} f is x fits = ap (option_and_then (λ (a : A × List ℕ). if length a.1 == 0 then Some a.0 else None)) (is.again x fits)

-- A decoder that gives, as the model's, what is read of octets as a whole.
pub decoded_found : {A B : Type 0} (view : B → A) (f : Field A) → IsLastField f → (octets : List ℕ) → AreOctets octets → (o : Option B)
    → option_map view o ≡ whole f.read octets → IfSome o (λ (x : B). (f.fits (view x) ≡ true) × (octets ≡ f.spell (view x)))
decoded_found view f is octets are None decodes = tt
decoded_found view f is octets are (Some x) decodes = let took = whole_took f is octets (view x) are (sym decodes) in (took.1, took.0)

pub decoded_only : {A B : Type 0} (view : B → A) (f : Field A) → IsLastField f → (octets : List ℕ) (o : Option B)
    → option_map view o ≡ whole f.read octets → (x : A) → f.fits x ≡ true → octets ≡ f.spell x → option_map view o ≡ Some x
decoded_only view f is octets o decodes x fits spelling = decodes ∙ (ap (whole f.read) spelling ∙ whole_again f is x fits)
