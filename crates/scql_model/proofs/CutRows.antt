-- A row that is cut to different columns is a row, and no longer.
use Rattle.std.proofs.Common.{◌≡◌, ℕ, ◌+◌, ◌≤◌, Bool, true, false, not, ◌||◌, List, [], ◌∷◌, length, get_or, zero, suc, ◌<◌, Some, filter, refl, subst, ◌∙◌, inl, inr, arith}
use Rattle.std.specs.Prelude.{position}
use Rattle.std.specs.List.{list_all, list_any}
use Rattle.std.specs.Str.{bytes_eq}
use Rattle.std.proofs.lemmas.Bool.{and_parts, cases_Bool, false≢true, not-true, or_parts}
use Rattle.std.proofs.lemmas.List.Quantifiers.{position-Some}
use Rattle.std.proofs.lemmas.List.Sums.{sum_by-cons}
use Rattle.std.proofs.lemmas.Slice.Eq.{bytes_eq-Decides}
use Rattle.scql_base.specs.Row.{is_narrow, row_size}
use Rattle.scql_model.specs.Contents.{cut_to}
use Rattle.scql_model.specs.Database.{are_among, are_different}
use Rattle.scql_model.specs.Matching.{Columns, Values, value_of}
use Rattle.scql_model.proofs.LongerLists.{not_equal-sym}

-- each value
narrow-value : (all : Columns) (values : Values) (name : List ℕ) → list_all is_narrow values ≡ true → is_narrow (value_of all values name) ≡ true
narrow-value [] values name narrow = refl
narrow-value (c ∷ all) [] name narrow = refl
narrow-value (c ∷ all) (v ∷ values) name narrow =
    let parts = and_parts (is_narrow v) (list_all is_narrow values) narrow in
    elim (cases_Bool (bytes_eq name c)) [
      | inl t ↦ rw t parts.0
      | inr f ↦ rw f (narrow-value all values name parts.1)
    ]

pub narrow-cut : (all wanted : Columns) (values : Values) → list_all is_narrow values ≡ true → list_all is_narrow (cut_to all wanted values) ≡ true
narrow-cut all [] values narrow = refl
narrow-cut all (w ∷ wanted) values narrow = rw (narrow-value all values w narrow) (narrow-cut all wanted values narrow)

-- the names but one
abbrev but : List ℕ → Columns → Columns
but c names = filter (λ (n : List ℕ). not (bytes_eq n c)) names

abbrev size_of : Columns → Values → Columns → ℕ
size_of all values wanted = row_size (cut_to all wanted values)

size-cons : (all : Columns) (values : Values) (w : List ℕ) (wanted : Columns) → size_of all values (w ∷ wanted) ≡ length (value_of all values w) + 1 + size_of all values wanted
size-cons all values w wanted = sum_by-cons (λ (v : List ℕ). length v + 1) (value_of all values w) (cut_to all wanted values)

-- where the first column isn't wanted
size-none : (c : List ℕ) (all : Columns) (v : List ℕ) (values : Values) (wanted : Columns) → list_any (bytes_eq c) wanted ≡ false → size_of (c ∷ all) (v ∷ values) wanted ≡ size_of all values (but c wanted)
size-none c all v values [] none = refl
size-none c all v values (w ∷ wanted) none =
    let parts = or_parts (bytes_eq c w) (list_any (bytes_eq c) wanted) none in
    let other = not_equal-sym c w parts.0 in
    size-cons (c ∷ all) (v ∷ values) w wanted ∙ rw (other, size-none c all v values wanted parts.1, size-cons all values w (but c wanted)) refl

-- the first column is wanted once at the most
size-first : (c : List ℕ) (all : Columns) (v : List ℕ) (values : Values) (wanted : Columns) → are_different wanted ≡ true → size_of (c ∷ all) (v ∷ values) wanted ≤ length v + 1 + size_of all values (but c wanted)
size-first c all v values [] different = omega arith
size-first c all v values (w ∷ wanted) different =
    let parts = and_parts (not (list_any (bytes_eq w) wanted)) (are_different wanted) different in
    let whole = size-cons (c ∷ all) (v ∷ values) w wanted in
    elim (cases_Bool (bytes_eq w c)) [
      | inl t ↦ (let same : w ≡ c = (bytes_eq-Decides w c).0 t in
          let none : list_any (bytes_eq c) wanted ≡ false = subst (λ (n : List ℕ). list_any (bytes_eq n) wanted ≡ false) same (not-true (list_any (bytes_eq w) wanted) parts.0) in
          let rest = size-none c all v values wanted none in
          let sum = rw t at whole in
          rw t (omega (arith, sum, rest)))
      | inr f ↦ (let rest = size-first c all v values wanted parts.1 in
          let sum = rw f at whole in
          let left = size-cons all values w (but c wanted) in
          rw f (omega (arith, sum, rest, left)))
    ]

any-but : (q p : List ℕ → Bool) (names : Columns) → list_any q names ≡ false → list_any q (filter p names) ≡ false
any-but q p [] none = refl
any-but q p (n ∷ names) none =
    let parts = or_parts (q n) (list_any q names) none in
    elim (cases_Bool (p n)) [
      | inl t ↦ rw (t, parts.0) (any-but q p names parts.1)
      | inr f ↦ rw f (any-but q p names parts.1)
    ]

different-but : (c : List ℕ) (names : Columns) → are_different names ≡ true → are_different (but c names) ≡ true
different-but c [] different = refl
different-but c (n ∷ names) different =
    let parts = and_parts (not (list_any (bytes_eq n) names)) (are_different names) different in
    elim (cases_Bool (bytes_eq n c)) [
      | inl t ↦ rw t (different-but c names parts.1)
      | inr f ↦ rw (f, any-but (bytes_eq n) (λ (m : List ℕ). not (bytes_eq m c)) names (not-true (list_any (bytes_eq n) names) parts.0)) (different-but c names parts.1)
    ]

among-but : (c : List ℕ) (all names : Columns) → are_among names (c ∷ all) ≡ true → are_among (but c names) all ≡ true
among-but c all [] among = refl
among-but c all (n ∷ names) among =
    let parts = and_parts (bytes_eq n c || list_any (bytes_eq n) all) (are_among names (c ∷ all)) among in
    elim (cases_Bool (bytes_eq n c)) [
      | inl t ↦ rw t (among-but c all names parts.1)
      | inr f ↦ (let here = rw f at parts.0 in rw (f, here) (among-but c all names parts.1))
    ]

pub size-cut : (all wanted : Columns) (values : Values) → are_different wanted ≡ true → are_among wanted all ≡ true → length all ≡ length values → row_size (cut_to all wanted values) ≤ row_size values
size-cut [] [] values different among long = omega arith
size-cut [] (w ∷ wanted) values different among long = absurd (false≢true among)
size-cut (c ∷ all) wanted [] different among long = absurd (omega arith)
size-cut (c ∷ all) wanted (v ∷ values) different among long =
    let first = size-first c all v values wanted different in
    let rest = size-cut all (but c wanted) values (different-but c wanted different) (among-but c all wanted among) (omega arith) in
    let sum = sum_by-cons (λ (x : List ℕ). length x + 1) v values in
    omega (arith, first, rest, sum)

-- a row's value in a column is the one at the column's place
value-index : (all : Columns) (values : Values) (name : List ℕ) (i : ℕ) → bytes_eq name (get_or all i []) ≡ true → ((k : ℕ) → k < i → bytes_eq name (get_or all k []) ≡ false) → i < length all → get_or values i [] ≡ value_of all values name
value-index [] values name i hit misses within = absurd (omega arith)
value-index (c ∷ all) [] name i hit misses within = refl
value-index (c ∷ all) (v ∷ values) name zero hit misses within = rw hit refl
value-index (c ∷ all) (v ∷ values) name (suc i) hit misses within = rw (misses 0 (omega arith)) (value-index all values name i hit (λ k less. misses (suc k) (omega arith)) (omega arith))

pub value-placed : (all : Columns) (values : Values) (name : List ℕ) (i : ℕ) → position (bytes_eq name) all ≡ Some i → get_or values i [] ≡ value_of all values name
value-placed all values name i found = (let there = position-Some (bytes_eq name) all i [] found in value-index all values name i there.1 there.2 there.0)
