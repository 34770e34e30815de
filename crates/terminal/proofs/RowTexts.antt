-- How long printed values are, and what a further one makes of a row's text.
use Rattle.std.proofs.Common.{◌≡◌, ℕ, zero, suc, ◌+◌, ◌*◌, ◌≤◌, ◌<◌, ◌==◌, Bool, true, false, List, [], ◌∷◌, ◌++◌, length, take, Some, if◌then◌else◌, add-one, append_assoc, refl, sym, ◌∙◌, ap, subst, arith}
use Rattle.std.specs.Prelude.{slice_get, codes}
use Rattle.std.specs.List.{flat_map, list_all}
use Rattle.std.proofs.lemmas.List.{length-append}
use Rattle.std.proofs.lemmas.List.Sums.{sum_by-cons}
use Rattle.std.proofs.lemmas.Bool.{and_parts, leb-true, ne_eqb}
use Rattle.std.proofs.lemmas.Option.{none-some, same_Some}
use Rattle.hex.specs.Hex.{encode_upper}
use Rattle.hex.proofs.HexLemmas.{length-encode_with}
use Rattle.scql_base.specs.Row.{row_size, is_narrow, IsRow}
use Rattle.scql_model.specs.Matching.{Values}
use Rattle.planner.specs.Text.{is_printed, quoted, value_text, values_text}
use Rattle.terminal.specs.Printed.{between_quotes, in_hexadecimal, lead}

quoted-size : (octet : ℕ) → length (quoted octet) ≤ 2
quoted-size octet = go (octet == 0x27)
  where
    go : (b : Bool) → length (if b then codes "''" else octet ∷ []) ≤ 2
    go true = omega arith
    go false = omega arith

pub quotes-size : (value : List ℕ) → length (flat_map quoted value) ≤ 2 * length value
quotes-size [] = omega arith
quotes-size (octet ∷ value) = omega (arith, quoted-size octet, quotes-size value, length-append (quoted octet) (flat_map quoted value))

-- one more
take-suc : {X : Type 0} (xs : List X) (i : ℕ) (x : X) → slice_get xs i ≡ Some x → take (suc i) xs ≡ take i xs ++ x ∷ []
take-suc [] i x is = absurd (none-some x is)
take-suc (y ∷ xs) zero x is = ap (λ z. z ∷ []) (same_Some y x is)
take-suc (y ∷ xs) (suc i) x is = ap (λ rest. y ∷ rest) (take-suc xs i x is)

take-next : {X : Type 0} (xs : List X) (i : ℕ) (x : X) → slice_get xs i ≡ Some x → take (i + 1) xs ≡ take i xs ++ x ∷ []
take-next xs i x is = rw add-one (take-suc xs i x is)

size-append : (xs ys : Values) → row_size (xs ++ ys) ≡ row_size xs + row_size ys
size-append [] ys = omega arith
size-append (x ∷ xs) ys =
    let a = sum_by-cons (λ (v : List ℕ). length v + 1) x (xs ++ ys) in
    let b = sum_by-cons (λ (v : List ℕ). length v + 1) x xs in
    omega (arith, a, b, size-append xs ys)

-- the octets of the values so far, with one more
pub size-next : (row : Values) (i : ℕ) (value : List ℕ) → slice_get row i ≡ Some value → row_size (take (i + 1) row) ≡ row_size (take i row) + length value + 1
size-next row i value is =
    ap row_size (take-next row i value is) ∙ (size-append (take i row) (value ∷ []) ∙ omega (arith, sum_by-cons (λ (v : List ℕ). length v + 1) value []))

pub size-take : (row : Values) (i : ℕ) → row_size (take i row) ≤ row_size row
size-take row zero = omega arith
size-take [] (suc i) = omega arith
size-take (x ∷ row) (suc i) =
    let a = sum_by-cons (λ (v : List ℕ). length v + 1) x (take i row) in
    let b = sum_by-cons (λ (v : List ℕ). length v + 1) x row in
    omega (arith, a, b, size-take row i)

pub narrow-at : (row : Values) (i : ℕ) (value : List ℕ) → list_all is_narrow row ≡ true → slice_get row i ≡ Some value → length value ≤ 200
narrow-at [] i value all is = absurd (none-some value is)
narrow-at (x ∷ row) zero value all is = subst (λ (v : List ℕ). length v ≤ 200) (same_Some x value is) (leb-true (length x) 200 (and_parts (is_narrow x) (list_all is_narrow row) all).0)
narrow-at (x ∷ row) (suc i) value all is = narrow-at row i value (and_parts (is_narrow x) (list_all is_narrow row) all).1 is

-- a further value behind others
pub values-next : (x : List ℕ) (xs : Values) (value : List ℕ) → values_text ((x ∷ xs) ++ value ∷ []) ≡ values_text (x ∷ xs) ++ (codes ", " ++ value_text value)
values-next x [] value = refl
values-next x (y ∷ xs) value =
    ap (λ rest. value_text x ++ (codes ", " ++ rest)) (values-next y xs value)
    ∙ (ap (λ rest. value_text x ++ rest) (sym (append_assoc (codes ", ") (values_text (y ∷ xs)) (codes ", " ++ value_text value)))
    ∙ sym (append_assoc (value_text x) (codes ", " ++ values_text (y ∷ xs)) (codes ", " ++ value_text value)))

pub text-next : (row : Values) (i : ℕ) (value : List ℕ) → slice_get row i ≡ Some value → values_text (take (i + 1) row) ≡ values_text (take i row) ++ (lead i ++ value_text value)
text-next [] i value is = absurd (none-some value is)
text-next (x ∷ row) zero value is = ap value_text (same_Some x value is)
text-next (x ∷ row) (suc i) value is =
    ap values_text (take-next (x ∷ row) (suc i) value is)
    ∙ (values-next x (take i row) value ∙ ap (λ none. let front : List ℕ = if none then [] else codes ", " in values_text (x ∷ take i row) ++ (front ++ value_text value)) (sym (ne_eqb (suc i) 0 (λ e. omega (arith, e)))))

lead-size : (i : ℕ) → length (lead i) ≤ 2
lead-size i = go (i == 0)
  where
    go : (b : Bool) → length (if b then [] else codes ", ") ≤ 2
    go true = omega arith
    go false = omega arith

value-size : (value : List ℕ) → length (value_text value) ≤ 2 * length value + 3
value-size value = go (list_all is_printed value)
  where
    go : (b : Bool) → length (if b then between_quotes value else in_hexadecimal value) ≤ 2 * length value + 3
    go true = omega (arith, quotes-size value, length-append (flat_map quoted value) (codes "'"))
    go false = let digits : length (encode_upper value) ≡ 2 * length value = length-encode_with (codes "0123456789ABCDEF") value in omega (arith, digits, length-append (encode_upper value) (codes "'"))

-- a further value behind a row's text so far, which stays within its size
pub row-next : (row : Values) (i : ℕ) (value before between after : List ℕ) → slice_get row i ≡ Some value → before ≡ values_text (take i row) → length before ≤ 2 * row_size (take i row) + 3 * i
    → between ≡ before ++ lead i → after ≡ between ++ value_text value
    → (after ≡ values_text (take (i + 1) row)) × (length after ≤ 2 * row_size (take (i + 1) row) + 3 * (i + 1))
row-next row i value before between after at is small with-lead with-value =
    let whole : after ≡ before ++ (lead i ++ value_text value) = with-value ∙ (ap (λ front. front ++ value_text value) with-lead ∙ append_assoc before (lead i) (value_text value)) in (
      whole ∙ (ap (λ front. front ++ (lead i ++ value_text value)) is ∙ sym (text-next row i value at)),
      (let size = ap length whole in omega (arith, size, length-append before (lead i ++ value_text value), length-append (lead i) (value_text value), lead-size i, value-size value, size-next row i value at, small)),
    )

-- there is room for it
pub room-next : (row : Values) (i : ℕ) (value before between : List ℕ) → IsRow row → i < length row → slice_get row i ≡ Some value → length before ≤ 2 * row_size (take i row) + 3 * i → between ≡ before ++ lead i
    → (length before ≤ 2084) × (length between + 2 * length value + 3 ≤ 2086) × (length value ≤ 200)
room-next row i value before between formed within at small with-lead =
    let next = size-next row i value at in
    let all = size-take row (i + 1) in
    let lengths = ap length with-lead in (
      omega (arith, small, next, all, formed.size, formed.count, within),
      omega (arith, small, next, all, formed.size, formed.count, within, lengths, length-append before (lead i), lead-size i),
      narrow-at row i value formed.widths at,
    )
