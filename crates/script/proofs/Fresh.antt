-- A name that isn't among others, of which there are few.
use Rattle.std.proofs.Common.{◌≡◌, ℕ, ◌+◌, ◌<◌, Bool, true, false, not, ◌&&◌, ◌||◌, List, [], ◌∷◌, length, Some, None, if◌then◌else◌, refl, sym, ◌∙◌, ap, codes, arith}
use Rattle.std.proofs.lemmas.Bool.{and_parts, not-true, or_from, or_left, or_parts, or_right}
use Rattle.std.proofs.lemmas.Slice.Eq.{bytes_eq-Decides}
use Rattle.std.specs.Str.{bytes_eq}
use Rattle.scql_base.specs.Name.{is_name, name_of}
use Rattle.script.specs.Meanings.{is_among, new_name_of}

abbrev are_different : List (List ℕ) → Bool
are_different [] = true
are_different (name ∷ names) = not (is_among name names) && are_different names

abbrev are_names : List (List ℕ) → Bool
are_names [] = true
are_names (name ∷ names) = is_name name && are_names names

-- the others, without the first that is this one
abbrev without : List ℕ → List (List ℕ) → List (List ℕ)
without octets [] = []
without octets (name ∷ names) = if bytes_eq name octets then names else name ∷ without octets names

pub bytes_eq-refl : (octets : List ℕ) → bytes_eq octets octets ≡ true
bytes_eq-refl octets = (bytes_eq-Decides octets octets).1 refl

length-without_by : (octets name : List ℕ) (names : List (List ℕ)) (same : Bool) → bytes_eq name octets ≡ same → (same || is_among octets names) ≡ true
    → (is_among octets names ≡ true → length (without octets names) + 1 ≡ length names) → length (without octets (name ∷ names)) + 1 ≡ length (name ∷ names)
length-without_by octets name names true is among behind = rw is (omega arith)
length-without_by octets name names false is among behind = rw is (omega (arith, behind among))

length-without : (octets : List ℕ) (names : List (List ℕ)) → is_among octets names ≡ true → length (without octets names) + 1 ≡ length names
length-without octets [] among = absurd (cc)
length-without octets (name ∷ names) among = length-without_by octets name names (bytes_eq name octets) refl among (λ is. length-without octets names is)

among-without_by : (octets other name : List ℕ) (names : List (List ℕ)) (same : Bool) → bytes_eq octets other ≡ false → bytes_eq name octets ≡ same
    → is_among other (without octets (name ∷ names)) ≡ false → (is_among other (without octets names) ≡ false → is_among other names ≡ false)
    → is_among other (name ∷ names) ≡ false
among-without_by octets other name names true apart is none behind =
    let none-left : is_among other names ≡ false = rw is at none in
    or_from (bytes_eq name other) (is_among other names) (ap (λ (n : List ℕ). bytes_eq n other) ((bytes_eq-Decides name octets).0 is) ∙ apart) none-left
among-without_by octets other name names false apart is none behind =
    let parts = or_parts (bytes_eq name other) (is_among other (without octets names)) (rw is at none) in
    or_from (bytes_eq name other) (is_among other names) parts.0 (behind parts.1)

among-without : (octets other : List ℕ) (names : List (List ℕ)) → bytes_eq octets other ≡ false → is_among other (without octets names) ≡ false → is_among other names ≡ false
among-without octets other [] apart none = refl
among-without octets other (name ∷ names) apart none =
    among-without_by octets other name names (bytes_eq name octets) apart refl none (λ is. among-without octets other names apart is)

record Fresh (candidates names : List (List ℕ)) : Type 0 where
  octets : List ℕ
  candidate : is_among octets candidates ≡ true
  new : is_among octets names ≡ false

apart-by : (octets other : List ℕ) (others : List (List ℕ)) (same : Bool) → bytes_eq octets other ≡ same → is_among octets others ≡ false → is_among other others ≡ true
    → bytes_eq octets other ≡ false
apart-by octets other others false is none among = is
apart-by octets other others true is none among = absurd (let e = ap (λ (o : List ℕ). is_among o others) ((bytes_eq-Decides octets other).0 is) in cc)

fresh-by : (first : List ℕ) (candidates names : List (List ℕ)) (among : Bool) → is_among first names ≡ among → is_among first candidates ≡ false
    → length names < length candidates + 1 → ((others : List (List ℕ)) → length others < length candidates → Fresh candidates others) → Fresh (first ∷ candidates) names
fresh-by first candidates names false is different few behind = record {
  octets = first;
  candidate = or_left (bytes_eq first first) (is_among first candidates) (bytes_eq-refl first);
  new = is;
}
fresh-by first candidates names true is different few behind =
    let f = behind (without first names) (omega (arith, length-without first names is)) in
    record {
      octets = f.octets;
      candidate = or_right (bytes_eq first f.octets) (is_among f.octets candidates) f.candidate;
      new = among-without first f.octets names (apart-by first f.octets candidates (bytes_eq first f.octets) refl different f.candidate) f.new;
    }

fresh : (candidates names : List (List ℕ)) → are_different candidates ≡ true → length names < length candidates → Fresh candidates names
fresh [] names different few = absurd (omega arith)
fresh (first ∷ candidates) names different few =
    let parts = and_parts (not (is_among first candidates)) (are_different candidates) different in
    fresh-by first candidates names (is_among first names) refl (not-true (is_among first candidates) parts.0) (omega arith)
    (λ others fewer. fresh candidates others parts.1 fewer)

is_name-by : (octets name : List ℕ) (names : List (List ℕ)) (same : Bool) → bytes_eq name octets ≡ same → (is_name name ≡ true) × (are_names names ≡ true)
    → (same || is_among octets names) ≡ true → (is_among octets names ≡ true → is_name octets ≡ true) → is_name octets ≡ true
is_name-by octets name names true is valid among behind = ap is_name (sym ((bytes_eq-Decides name octets).0 is)) ∙ valid.0
is_name-by octets name names false is valid among behind = behind among

is_name-among : (octets : List ℕ) (names : List (List ℕ)) → are_names names ≡ true → is_among octets names ≡ true → is_name octets ≡ true
is_name-among octets [] valid among = absurd (cc)
is_name-among octets (name ∷ names) valid among =
    let parts = and_parts (is_name name) (are_names names) valid in
    is_name-by octets name names (bytes_eq name octets) refl parts among (λ is. is_name-among octets names parts.1 is)

-- fifteen names
letters : List (List ℕ)
letters = codes "A" ∷ codes "B" ∷ codes "C" ∷ codes "D" ∷ codes "E" ∷ codes "F" ∷ codes "G" ∷ codes "H" ∷ codes "I" ∷ codes "J" ∷ codes "K" ∷ codes "L" ∷ codes "M" ∷ codes "N" ∷ codes "O" ∷ []

pub record NewName (names : List (List ℕ)) : Type 0 where
  pub octets : List ℕ
  pub is : new_name_of names octets ≡ Some octets

-- where there are fewer than fifteen there is another
pub fresh_name : (names : List (List ℕ)) → length names < 15 → NewName names
unfolding letters
fresh_name names few =
    let f = fresh letters names refl few in
    record { octets = f.octets; is = rw (f.new, is_name-among f.octets letters refl f.candidate) refl }

none-new_by : (among : Bool) → (if among then None else name_of []) ≡ None
none-new_by true = refl
none-new_by false = refl

-- no octets are no name
pub none-new : (names : List (List ℕ)) → new_name_of names [] ≡ None
none-new names = none-new_by (is_among [] names)
