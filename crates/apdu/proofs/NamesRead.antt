-- The names at the front of strings, read one after the other.
use Rattle.std.proofs.Common.{◌≡◌, ◌≤◌, ◌<◌, ◌+◌, ◌-◌, ℕ, suc, nat_le, ◌&&◌, Bool, true, false, List, [], ◌∷◌, ◌++◌, length, take, Option, Some, None, refl, ap, sym, ◌∙◌, arith, rules, append_assoc, length-take-le}
use Rattle.std.specs.Prelude.{option_map}
use Rattle.std.specs.List.{list_all}
use Rattle.std.proofs.lemmas.Bool.{false≢true, leb-true}
use Rattle.std.proofs.lemmas.Option.{none-some, same_Some}
use Rattle.std.proofs.lemmas.List.Folds.{list_all-append}
use Rattle.std.proofs.Math.Seq.{take-append-add}
use Rattle.scql_base.specs.Name.{is_name}
use Rattle.scql_base.specs.Strings.{with_string}
use Rattle.scql_model.specs.Database.{are_different}
use Rattle.scql_model.specs.Parameters.{◌>>=◌, only_where, are_different_names, are_chosen_columns}
use Rattle.apdu.specs.Fields.{names_in}

-- some, and those behind them
abbrev pub behind : {A : Type 0} → List A → Option (List A) → Option (List A)
behind {A} xs o = option_map (λ (more : List A). xs ++ more) o

behind-assoc : {A : Type 0} (xs : List A) (x : A) (o : Option (List A)) → behind (xs ++ x ∷ []) o ≡ behind xs (behind (x ∷ []) o)
behind-assoc xs x None = refl
behind-assoc xs x (Some ys) = ap Some (append_assoc xs (x ∷ []) ys)

-- one element more was read
pub behind-next : {A : Type 0} (xs : List A) (x : A) (here rest whole : Option (List A)) → behind xs here ≡ whole → here ≡ behind (x ∷ []) rest → behind (xs ++ x ∷ []) rest ≡ whole
behind-next xs x here rest whole is at = behind-assoc xs x rest ∙ (ap (behind xs) (sym at) ∙ is)

-- all were read
pub behind-end : {A : Type 0} (xs : List A) (whole : Option (List A)) → behind xs (Some []) ≡ whole → Some xs ≡ whole
behind-end xs whole is = search rules ∙ is

pub not_taken : {A : Type 0} (test : Bool) (x : A) → (test ≡ true → ⊥) → None ≡ only_where test x
not_taken true x never = absurd (never refl)
not_taken false x never = refl

pub both_of : (a b : Bool) → a && b ≡ true → (a ≡ true) × (b ≡ true)
both_of true b is = (refl, is)
both_of false b is = absurd (false≢true is)

-- what passed a test
pub passed : {A P : Type 0} (test : Bool) (x y : A) → only_where test x ≡ Some y → (test ≡ true → x ≡ y → P) → P
passed true x y is then' = then' refl (same_Some x y is)
passed false x y is then' = absurd (none-some y is)

-- a value came of what went before
pub found : {A B P : Type 0} (o : Option A) (f : A → Option B) (y : B) → o >>= f ≡ Some y → ((x : A) → o ≡ Some x → f x ≡ Some y → P) → P
found None f y is then' = absurd (none-some y is)
found (Some x) f y is then' = then' x refl is

abbrev are_named : ℕ → List (List ℕ) → Bool
are_named count strings = nat_le count (length strings) && are_chosen_columns (take count strings)

-- what holds of names that are read
record Named (count : ℕ) (strings : List (List ℕ)) : Type 0 where
  most : count ≤ length strings
  few : count ≤ 15
  each : list_all is_name (take count strings) ≡ true

named : (count : ℕ) (strings : List (List ℕ)) → are_named count strings ≡ true → Named count strings
named count strings is =
    let t = both_of (nat_le count (length strings)) (are_chosen_columns (take count strings)) is in
    let u = both_of (nat_le (length (take count strings)) 15) (are_different_names (take count strings)) t.1 in
    let most : count ≤ length strings = leb-true count (length strings) t.0 in
    let few : length (take count strings) ≤ 15 = leb-true (length (take count strings)) 15 u.0 in
    let size : length (take count strings) ≡ count = length-take-le count strings most in
    record {
      most = most;
      few = omega (arith, few, size);
      each = (both_of (list_all is_name (take count strings)) (are_different (take count strings)) u.1).0;
    }

-- a string behind some is no name
pub names_in-unnamed : (count : ℕ) (strings names after : List (List ℕ)) (string : List ℕ) → strings ≡ names ++ string ∷ after → length names < count → is_name string ≡ false → None ≡ names_in count strings
names_in-unnamed count strings names after string split less none = not_taken (are_named count strings) _ (λ is.
    let n = named count strings is in
    let more : ℕ = count - length names - 1 in
    let at : count ≡ length names + suc more = omega (arith, less) in
    let front : take count strings ≡ names ++ take (suc more) (string ∷ after) =
    ap (λ (n : ℕ). take n strings) at ∙ (ap (take (length names + suc more)) split ∙ take-append-add names (string ∷ after) (suc more)) in
    let each : list_all is_name names && list_all is_name (take (suc more) (string ∷ after)) ≡ true = sym (list_all-append is_name names (take (suc more) (string ∷ after))) ∙ (ap (list_all is_name) (sym front) ∙ n.each) in
    let last = both_of (is_name string) (list_all is_name (take more after)) (both_of (list_all is_name names) _ each).1 in
    false≢true (sym none ∙ last.0))

-- the names at the front of strings, if there are any
abbrev pub front_of : ℕ → Option (List (List ℕ)) → Option (List (List ℕ) × List (List ℕ))
front_of count o = o >>= names_in count

pub names-unnamed : (count : ℕ) (names : List (List ℕ)) (string : List ℕ) (here o whole : Option (List (List ℕ))) → behind names here ≡ whole → here ≡ with_string string o → length names < count
    → is_name string ≡ false → None ≡ front_of count whole
names-unnamed count names string here None whole is at less none = rw (sym is ∙ ap (behind names) at) refl
names-unnamed count names string here (Some after) whole is at less none = rw (sym is ∙ ap (behind names) at) (names_in-unnamed count (names ++ string ∷ after) names after string refl less none)
