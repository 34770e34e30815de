-- The values of an INSERT, read one by one into a row, as long as they aren't too wide for one.
use Rattle.std.proofs.Common.{◌≡◌, Bool, ℕ, ◌+◌, ◌-◌, ◌<◌, ◌≤◌, nat_le, true, false, List, [], ◌∷◌, ◌++◌, length, Option, Some, None, IfSome, option_map, option_and_then, if◌then◌else◌, codes, refl, ◌∙◌, ap, arith, length-append}
use Rattle.std.proofs.lemmas.Bool.{leb-false, lt-leb}
use Rattle.std.proofs.lemmas.List.Sums.{sum_by-append}
use Rattle.scql_base.specs.declared.row.TheConstants.Row.{LARGEST}
use Rattle.scql_base.specs.Row.{row_size}
use Rattle.script.specs.Tokens.{Token}
use Rattle.script.specs.Reading.{behind, is_next}
use Rattle.script.specs.Grammar as grammar
use Rattle.script.specs.Grammar.{with_literal, literals}
use Rattle.script.specs.Parsed.{row_of}
use Rattle.script.proofs.Listing.{IsReading, listed-fault, begins, goes_on, fails, ends, is_full}

row_size-longer : (values : List (List ℕ)) (value : List ℕ) → row_size (values ++ value ∷ []) ≡ row_size values + length value + 1
row_size-longer values value = omega (arith, sum_by-append (λ (v : List ℕ). length v + 1) values (value ∷ []))

with_literal-read : (values : List (List ℕ)) (tokens rest : List Token) (found : Option (List ℕ)) → (grammar.literal tokens).0 ≡ found → (grammar.literal tokens).1 ≡ rest
    → with_literal values tokens ≡ (option_map (λ value. values ++ value ∷ []) found, rest)
unfolding with_literal
with_literal-read values tokens rest None is after = rw (is, after) refl
with_literal-read values tokens rest (Some value) is after = rw (is, after) refl

row_of-by : (fits : Bool) (values : List (List ℕ)) (value : List ℕ) → nat_le (row_size values) LARGEST ≡ fits
    → option_and_then (λ held. row_of (held ++ value ∷ [])) (if fits then Some values else None) ≡ row_of (values ++ value ∷ [])
row_of-by true values value is = refl
row_of-by false values value is =
    let wide : nat_le (row_size (values ++ value ∷ [])) LARGEST ≡ false =
    lt-leb (row_size (values ++ value ∷ [])) LARGEST (omega (arith, leb-false (row_size values) LARGEST is, row_size-longer values value)) in
    rw wide refl

-- a row of more values is too wide where one of fewer is
row_of-longer : (values : List (List ℕ)) (value : List ℕ) → option_and_then (λ held. row_of (held ++ value ∷ [])) (row_of values) ≡ row_of (values ++ value ∷ [])
row_of-longer values value = row_of-by (nat_le (row_size values) LARGEST) values value refl

-- So many values are read, and the row has them where they aren't too wide.
pub record IsReadingRow (count : ℕ) (whole : Option (List (List ℕ)) × List Token) (row : Option (List (List ℕ))) (tokens : List Token) : Type 0 where
  pub values : List (List ℕ)
  pub reading : IsReading (15 - count) (codes ",") with_literal whole values tokens
  pub held : row ≡ row_of values
  pub counted : length values ≡ count

begun : (tokens rest : List Token) (row : Option (List (List ℕ))) (found : Option (List ℕ)) → (grammar.literal tokens).0 ≡ found → (grammar.literal tokens).1 ≡ rest
    → Some row ≡ option_map (λ value. row_of (value ∷ [])) found → IsReadingRow 1 (literals tokens) row rest
unfolding literals
begun tokens rest row None is after held = absurd (cc)
begun tokens rest row (Some value) is after held = record {
  values = value ∷ [];
  reading = begins 15 [] tokens (with_literal-read [] tokens rest (Some value) is after) (omega arith);
  held = cc;
  counted = refl;
}

pub row-begun : (tokens rest : List Token) (row : Option (List (List ℕ))) → (grammar.literal tokens).1 ≡ rest
    → Some row ≡ option_map (λ value. row_of (value ∷ [])) (grammar.literal tokens).0 → IsReadingRow 1 (literals tokens) row rest
row-begun tokens rest row after held = begun tokens rest row (grammar.literal tokens).0 refl after held

grown : {count : ℕ} {whole : Option (List (List ℕ)) × List Token} {old : Option (List (List ℕ))} {tokens : List Token} (rest : List Token) (row : Option (List (List ℕ))) (found : Option (List ℕ))
    → IsReadingRow count whole old tokens → count < 15 → is_next (codes ",") tokens ≡ true → (grammar.literal (behind tokens)).0 ≡ found → (grammar.literal (behind tokens)).1 ≡ rest
    → Some row ≡ option_map (λ value. option_and_then (λ values. row_of (values ++ value ∷ [])) old) found → IsReadingRow (count + 1) whole row rest
grown rest row None reading few next is after held = absurd (cc)
grown {count = count} {old = old} {tokens = tokens} rest row (Some value) reading few next is after held =
    let longer : option_and_then (λ values. row_of (values ++ value ∷ [])) old ≡ row_of (reading.values ++ value ∷ []) =
    ap (option_and_then (λ values. row_of (values ++ value ∷ []))) reading.held ∙ row_of-longer reading.values value in
    record {
      values = reading.values ++ value ∷ [];
      reading = goes_on reading.reading (omega arith) next (with_literal-read reading.values (behind tokens) rest (Some value) is after) (omega arith);
      held = cc;
      counted = omega (arith, length-append reading.values (value ∷ []), reading.counted);
    }

pub row-grown : {count : ℕ} {whole : Option (List (List ℕ)) × List Token} {old : Option (List (List ℕ))} {tokens : List Token} (rest : List Token) (row : Option (List (List ℕ)))
    → IsReadingRow count whole old tokens → count < 15 → is_next (codes ",") tokens ≡ true → (grammar.literal (behind tokens)).1 ≡ rest
    → Some row ≡ option_map (λ value. option_and_then (λ values. row_of (values ++ value ∷ [])) old) (grammar.literal (behind tokens)).0 → IsReadingRow (count + 1) whole row rest
row-grown {tokens = tokens} rest row reading few next after held = grown rest row (grammar.literal (behind tokens)).0 reading few next refl after held

-- a reading whose next literal is at fault
none-read : {A : Type 0} (f : List ℕ → A) (found : Option (List ℕ)) → None ≡ option_map f found → found ≡ None
none-read f None is = refl
none-read f (Some value) is = absurd (cc)

pub row-fault : {A : Type 0} (f : List ℕ → A) (tokens rest : List Token) → (grammar.literal tokens).1 ≡ rest → None ≡ option_map f (grammar.literal tokens).0 → literals tokens ≡ (None, rest)
unfolding literals
row-fault f tokens rest after is =
    listed-fault 15 (codes ",") with_literal [] tokens rest (with_literal-read [] tokens rest None (none-read f (grammar.literal tokens).0 is) after)

pub row-fails : {A : Type 0} {count : ℕ} {whole : Option (List (List ℕ)) × List Token} {old : Option (List (List ℕ))} {tokens : List Token} (f : List ℕ → A) (rest : List Token)
    → IsReadingRow count whole old tokens → count < 15 → is_next (codes ",") tokens ≡ true → (grammar.literal (behind tokens)).1 ≡ rest
    → None ≡ option_map f (grammar.literal (behind tokens)).0 → whole ≡ (None, rest)
row-fails {tokens = tokens} f rest reading few next after is =
    fails reading.reading (omega arith) next (with_literal-read reading.values (behind tokens) rest None (none-read f (grammar.literal (behind tokens)).0 is) after)

few-by : (fits : Bool) (values : List (List ℕ)) → length values < 15 → IfSome (if fits then Some values else None) (λ values. length values < 15)
few-by true values few = few
few-by false values few = tt

pub row-few : {count : ℕ} {whole : Option (List (List ℕ)) × List Token} {row : Option (List (List ℕ))} {tokens : List Token} → IsReadingRow count whole row tokens → count < 15
    → IfSome row (λ values. length values < 15)
row-few {row = row} reading few = rw reading.held (few-by (nat_le (row_size reading.values) LARGEST) reading.values (omega (arith, reading.counted)))

-- all values are read
pub row-ends : {count : ℕ} {whole : Option (List (List ℕ)) × List Token} {row : Option (List (List ℕ))} {tokens : List Token} (reading : IsReadingRow count whole row tokens)
    → is_next (codes ",") tokens ≡ false → whole ≡ (Some reading.values, tokens)
row-ends reading other = ends reading.reading other

pub row-is_full : {count : ℕ} {whole : Option (List (List ℕ)) × List Token} {row : Option (List (List ℕ))} {tokens : List Token} (reading : IsReadingRow count whole row tokens)
    → 15 ≤ count → whole ≡ (Some reading.values, tokens)
row-is_full reading full = is_full reading.reading (omega arith)

pub row-held : {count : ℕ} {whole : Option (List (List ℕ)) × List Token} {row : Option (List (List ℕ))} {tokens : List Token} (reading : IsReadingRow count whole row tokens)
    → whole ≡ (Some reading.values, tokens) → Some row ≡ option_map row_of whole.0
row-held reading is = rw is (ap Some reading.held)
