-- A row as one run of octets: it splits into the values that it spells, and a value more is its spelling more.
use Rattle.std.proofs.Common.{◌≡◌, ℕ, ◌+◌, ◌<◌, ◌≤◌, List, [], ◌∷◌, ◌++◌, length, nat_le, Bool, true, false, ◌&&◌, Option, Some, None, Ok, Err, if◌then◌else◌, refl, sym, ◌∙◌, ap, arith, append-nil}
use Rattle.std.specs.Prelude.{option_and_then}
use Rattle.std.specs.List.{flat_map, list_all}
use Rattle.std.proofs.lemmas.Bool.{le-leb, lt-ltb, le-ltb, ne_eqb, and_from}
use Rattle.std.proofs.lemmas.Bool.Decides.{nat_tests}
use Rattle.std.proofs.lemmas.Grind.{flat_map-append}
use Rattle.std.proofs.lemmas.Option.{none-some, same_Some}
use Rattle.std.proofs.lemmas.List.{length-append}
use Rattle.std.proofs.lemmas.List.Folds.{list_all-append}
use Rattle.std.proofs.lemmas.List.Sums.{sum_by-append, sum_by-cons}
use Rattle.scql_base.specs.declared.row_refusal.RowRefusal.TheVariants.{TooWide}
use Rattle.scql_base.specs.Strings.{spelled, params_of, strings_of}
use Rattle.scql_base.specs.Row.{IsRow, are_a_row, is_narrow, narrow_count, row_from, row_size, with_value}
use Rattle.scql_base.proofs.Splitting.{AreParams-from_params_of, params_of-again}

pub strings_of-spelled : (values : List (List ℕ)) → strings_of (flat_map spelled values) ≡ values
strings_of-spelled values = rw (params_of-again values) refl

-- octets that spell what they split into do split
pub params_of-spelling : (octets : List ℕ) → octets ≡ flat_map spelled (strings_of octets) → params_of octets ≡ Some (strings_of octets)
params_of-spelling octets is = ap params_of is ∙ params_of-again (strings_of octets)

pub strings_of-empty : (octets : List ℕ) → octets ≡ [] → strings_of octets ≡ []
strings_of-empty octets is = ap strings_of is ∙ strings_of-spelled []

pub row_size-spelled : (values : List (List ℕ)) → length (flat_map spelled values) ≡ row_size values
row_size-spelled [] = refl
row_size-spelled (value ∷ values) =
    let more : length (flat_map spelled (value ∷ values)) ≡ (length value + 1) + row_size values =
    omega (arith, length-append value (flat_map spelled values), row_size-spelled values) in
    more ∙ sym (sum_by-cons (λ (v : List ℕ). length v + 1) value values)

-- the run with one spelling more
pub longer_run : (octets longer value : List ℕ) (values : List (List ℕ)) → octets ≡ flat_map spelled values → longer ≡ octets ++ spelled value
    → longer ≡ flat_map spelled (values ++ value ∷ [])
longer_run octets longer value values is more =
    more ∙ (ap (λ front. front ++ spelled value) is
    ∙ (ap (λ back. flat_map spelled values ++ back) (sym (append-nil (spelled value))) ∙ sym (flat_map-append spelled values (value ∷ []))))

-- it splits into the values with one more
pub strings_of-longer : (octets longer value : List ℕ) (values : List (List ℕ)) → octets ≡ flat_map spelled values → longer ≡ octets ++ spelled value
    → strings_of longer ≡ values ++ value ∷ []
strings_of-longer octets longer value values is more =
    ap strings_of (longer_run octets longer value values is more) ∙ strings_of-spelled (values ++ value ∷ [])

lt-leb : (a b : ℕ) → b < a → nat_le a b ≡ false
lt-leb a b above = grind (arith, nat_tests)

and-false : (b : Bool) → (b && false) ≡ false
and-false true = refl
and-false false = refl

-- values that octets split into, as a row
pub row_from-values : (octets : List ℕ) (values : List (List ℕ)) → params_of octets ≡ Some values → length octets ≡ row_size values
row_from-values octets values is = ap length (AreParams-from_params_of values octets is) ∙ row_size-spelled values

pub row_from-row : (octets : List ℕ) (values : List (List ℕ)) → params_of octets ≡ Some values → length values ≤ 15 → length octets ≤ 1020 → list_all is_narrow values ≡ true → row_from octets ≡ Some values
row_from-row octets values is few short narrow =
    let size : row_size values ≤ 1020 = omega (arith, row_from-values octets values is) in
    rw (is, le-leb (length values) 15 few, narrow, le-leb (row_size values) 1020 size) refl

pub row_from-many : (octets : List ℕ) (values : List (List ℕ)) → params_of octets ≡ Some values → 15 < length values → row_from octets ≡ None
row_from-many octets values is many = rw (is, lt-leb (length values) 15 many) refl

pub row_from-wide : (octets : List ℕ) (values : List (List ℕ)) → params_of octets ≡ Some values → list_all is_narrow values ≡ false → row_from octets ≡ None
row_from-wide octets values is wide = rw (is, wide, and-false (nat_le (length values) 15)) refl

pub row_from-long : (octets : List ℕ) (values : List (List ℕ)) → params_of octets ≡ Some values → 1020 < length octets → row_from octets ≡ None
row_from-long octets values is long =
    let size : 1020 < row_size values = omega (arith, row_from-values octets values is) in
    rw (is, lt-leb (row_size values) 1020 size, and-false (nat_le (length values) 15 && list_all is_narrow values)) refl

pub IsRow-read : (octets : List ℕ) (values : List (List ℕ)) → params_of octets ≡ Some values → length values ≤ 15 → length octets ≤ 1020 → list_all is_narrow values ≡ true → IsRow values
IsRow-read octets values is few short narrow = record { count = few; widths = narrow; size = omega (arith, row_from-values octets values is) }

-- the row with a value more, where it has room
pub IsRow-longer : (values : List (List ℕ)) (value : List ℕ) → IsRow values → (length values ≡ 15 → ⊥) → length value ≤ 200
    → row_size values + length value + 1 ≤ 1020 → IsRow (values ++ value ∷ [])
IsRow-longer values value row few narrow room = record {
  count = omega (arith, length-append values (value ∷ []), row.count, few);
  widths = list_all-append is_narrow values (value ∷ []) ∙ and_from _ _ row.widths (and_from _ _ (le-leb (length value) 200 narrow) refl);
  size = omega (arith, sum_by-append (λ v. length v + 1) values (value ∷ []), room);
}

pub with_value-longer : (values : List (List ℕ)) (value : List ℕ) → (length values ≡ 15 → ⊥) → length value ≤ 200
    → row_size values + length value + 1 ≤ 1020 → with_value values value ≡ Ok (values ++ value ∷ [])
with_value-longer values value few narrow room =
    rw (ne_eqb (length values) 15 few, le-ltb 200 (length value) narrow, le-ltb 1020 (row_size values + length value + 1) room) refl

pub with_value-wide : (values : List (List ℕ)) (value : List ℕ) → (length values ≡ 15 → ⊥) → 200 < length value → with_value values value ≡ Err TooWide
with_value-wide values value few wide = rw (ne_eqb (length values) 15 few, lt-ltb 200 (length value) wide) refl

pub with_value-full : (values : List (List ℕ)) (value : List ℕ) → (length values ≡ 15 → ⊥) → length value ≤ 200 → 1020 < row_size values + length value + 1
    → with_value values value ≡ Err TooWide
with_value-full values value few narrow full =
    rw (ne_eqb (length values) 15 few, le-ltb 200 (length value) narrow, lt-ltb 1020 (row_size values + length value + 1) full) refl

-- octets whose values were counted, none of which is too long
pub record IsCounted (octets : List ℕ) (count : ℕ) : Type 0 where
  pub values : List (List ℕ)
  pub split : params_of octets ≡ Some values
  pub size : count ≡ length values
  pub narrow : list_all is_narrow values ≡ true

pub counted : (octets : List ℕ) (count : ℕ) → Some count ≡ option_and_then narrow_count (params_of octets) → IsCounted octets count
counted octets count is = of_split (params_of octets) refl is
  where
    of_test : (values : List (List ℕ)) (test : Bool) → params_of octets ≡ Some values → list_all is_narrow values ≡ test → Some count ≡ (if test then Some (length values) else None) → IsCounted octets count
    of_test values true split narrow is = record { values = values; split = split; size = same_Some count (length values) is; narrow = narrow }
    of_test values false split narrow is = absurd (none-some count (sym is))

    of_split : (o : Option (List (List ℕ))) → params_of octets ≡ o → Some count ≡ option_and_then narrow_count o → IsCounted octets count
    of_split None split is = absurd (none-some count (sym is))
    of_split (Some values) split is = of_test values (list_all is_narrow values) split refl is

pub row_from-uncounted : (octets : List ℕ) → None ≡ option_and_then narrow_count (params_of octets) → None ≡ row_from octets
row_from-uncounted octets is = of_split (params_of octets) is
  where
    of_test : (few test short : Bool) (values : List (List ℕ)) → None ≡ (if test then Some (length values) else None) → None ≡ (if few && test && short then Some values else None)
    of_test few true short values is = absurd (none-some (length values) is)
    of_test true false short values is = refl
    of_test false false short values is = refl

    of_split : (o : Option (List (List ℕ))) → None ≡ option_and_then narrow_count o → None ≡ option_and_then (λ values. if are_a_row values then Some values else None) o
    of_split None is = refl
    of_split (Some values) is = of_test (nat_le (length values) 15) (list_all is_narrow values) (nat_le (row_size values) 1020) values is
