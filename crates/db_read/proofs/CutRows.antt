-- A row that is cut is put together value by value.
use Rattle.std.proofs.Common.{◌≡◌, ℕ, ◌+◌, ◌<◌, ◌≤◌, nat_le, true, ◌&&◌, List, [], ◌∷◌, ◌++◌, length, take, drop, get_or, Option, Some, None, Result, Ok, Err, refl, sym, ap, subst, ◌∙◌, arith}
use Rattle.std.specs.Prelude.{IfErr, OnOk, is_some, option_map}
use Rattle.std.specs.List.{flat_map, list_all}
use Rattle.std.proofs.lemmas.Bool.{and_parts, leb-true}
use Rattle.std.proofs.lemmas.List.{take_all, take_more, take-append-drop, map-append, length-append}
use Rattle.std.proofs.lemmas.List.Folds.{list_all-append}
use Rattle.std.proofs.lemmas.List.Sums.{sum_by-append, sum_by-cons}
use Rattle.std.proofs.lemmas.Option.{none-some, same_Some}
use Rattle.scql_base.proofs.RowOctets.{row_from-row, row_size-spelled, with_value-longer}
use Rattle.scql_base.proofs.Splitting.{params_of-again, params_of-empty}
use Rattle.scql_base.specs.Row.{IsRow, are_a_row, is_narrow, row_from, row_size, with_value}
use Rattle.scql_base.specs.Strings.{spelled}
use Rattle.scql_base.specs.declared.row_refusal.RowRefusal.{RowRefusal}
use Rattle.scql_model.specs.Matching.{Values}
use Rattle.search_cond.proofs.Binding.{drop-first}
use Rattle.db_read.specs.Chosen.{values_at}

-- no octets are read as a row of no values
pub emptied : (read : Option (Unit {0})) (out : Values) → option_map (λ _. out) read ≡ row_from [] → (is_some read ≡ true) × (out ≡ [])
emptied None out is = absurd (none-some [] (rw params_of-empty at is))
emptied (Some u) out is = (refl, same_Some out [] (rw params_of-empty at is))

-- the octets of a row are read as that row
pub taken : (read : Option (Unit {0})) (out row : Values) (octets : List ℕ) → IsRow row → octets ≡ flat_map spelled row → option_map (λ _. out) read ≡ row_from octets → (is_some read ≡ true) × (out ≡ row)
taken read out row octets limits spells is = whole read (is ∙ (ap row_from spells ∙ row_from-row (flat_map spelled row) row (params_of-again row) limits.count (omega (arith, row_size-spelled row, limits.size)) limits.widths))
  where
    whole : (read : Option (Unit {0})) → option_map (λ _. out) read ≡ Some row → (is_some read ≡ true) × (out ≡ row)
    whole None same = absurd (none-some row same)
    whole (Some u) same = (refl, same_Some out row same)

-- the places so far are those of the first values
abbrev pub AreFirst : List ℕ → ℕ → Type 0
AreFirst places i = (values : Values) → i ≤ length values → values_at (take i places) values ≡ take i values

pub first-more : (places : List ℕ) (i place : ℕ) → i < length places → place ≡ get_or places i place → place ≡ i → AreFirst places i → AreFirst places (i + 1)
first-more places i place within is next first = λ values most.
    let at : get_or places i place ≡ i = sym is ∙ next in
    ap (λ (ps : List ℕ). values_at ps values) (take_more places i place within) ∙ (map-append (λ (p : ℕ). get_or values p []) (take i places) (get_or places i place ∷ [])
    ∙ (ap (λ (front : Values). front ++ get_or values (get_or places i place) [] ∷ []) (first values (omega (arith, most)))
    ∙ (ap (λ (p : ℕ). take i values ++ get_or values p [] ∷ []) at ∙ sym (take_more values i [] (omega (arith, most))))))

pub first-all : (places : List ℕ) (i : ℕ) (values : Values) → length places ≤ i → length values ≡ i → AreFirst places i → values_at places values ≡ values
first-all places i values whole count first =
    ap (λ (ps : List ℕ). values_at ps values) (sym (take_all i places whole)) ∙ (first values (omega (arith, count)) ∙ take_all i values (omega (arith, count)))

-- what begins a row takes its next value
row-parts : (before : Values) (value : List ℕ) (after : Values) → are_a_row (before ++ value ∷ after) ≡ true → with_value before value ≡ Ok (before ++ value ∷ [])
row-parts before value after row =
    let whole : Values = before ++ value ∷ after in
    let parts = and_parts (nat_le (length whole) 15 && list_all is_narrow whole) (nat_le (row_size whole) 1020) row in
    let two = and_parts (nat_le (length whole) 15) (list_all is_narrow whole) parts.0 in
    let count = leb-true (length whole) 15 two.0 in
    let size = leb-true (row_size whole) 1020 parts.1 in
    let both = and_parts (list_all is_narrow before) (is_narrow value && list_all is_narrow after) (sym (list_all-append is_narrow before (value ∷ after)) ∙ two.1) in
    let narrow = leb-true (length value) 200 (and_parts (is_narrow value) (list_all is_narrow after) both.1).0 in
    let longer = length-append before (value ∷ after) in
    let next = sum_by-cons (λ (v : List ℕ). length v + 1) value after in
    let sum = sum_by-append (λ (v : List ℕ). length v + 1) before (value ∷ after) in
    with_value-longer before value (λ (e : length before ≡ 15). omega arith) narrow (omega arith)

-- the values at places, split at one of them
split-at : (places : List ℕ) (values : Values) (i place : ℕ) → i < length places → place ≡ get_or places i place
    → values_at places values ≡ values_at (take i places) values ++ get_or values place [] ∷ values_at (drop (i + 1) places) values
split-at places values i place within is =
    ap (λ (ps : List ℕ). values_at ps values) (sym (take-append-drop i places) ∙ ap (λ (rest : List ℕ). take i places ++ rest) (drop-first places i place within is))
    ∙ map-append (λ (p : ℕ). get_or values p []) (take i places) (place ∷ drop (i + 1) places)

module _ (places : List ℕ) (values : Values) where
  -- so many values are cut, if the whole is a row
  abbrev pub AreCut : ℕ → Values → Type 0
  AreCut i cut = are_a_row (values_at places values) ≡ true → cut ≡ values_at (take i places) values

  pub cut-more : (i place : ℕ) (value : List ℕ) (cut new : Values) (pushed : Result (Unit {0}) RowRefusal) → i < length places → place ≡ get_or places i place → value ≡ get_or values place []
      → OnOk pushed (with_value cut value ≡ Ok new) → IfErr pushed (λ refusal. with_value cut value ≡ Err refusal) → AreCut i cut → AreCut (i + 1) new
  cut-more i place value cut new pushed within is value_is ok err so_far = λ row.
      let here : cut ≡ values_at (take i places) values = so_far row in
      let begins = row-parts (values_at (take i places) values) (get_or values place []) (values_at (drop (i + 1) places) values) (subst (λ (v : Values). are_a_row v ≡ true) (split-at places values i place within is) row) in
      let takes : with_value cut value ≡ Ok (values_at (take i places) values ++ get_or values place [] ∷ []) = rw (here, value_is) begins in
      let longer = ap (λ (ps : List ℕ). values_at ps values) (take_more places i place within) ∙ map-append (λ (p : ℕ). get_or values p []) (take i places) (get_or places i place ∷ []) in
      taken pushed ok err takes ∙ (ap (λ (p : ℕ). values_at (take i places) values ++ get_or values p [] ∷ []) is ∙ sym longer)
    where
      taken : {whole : Values} (pushed : Result (Unit {0}) RowRefusal) → OnOk pushed (with_value cut value ≡ Ok new) → IfErr pushed (λ refusal. with_value cut value ≡ Err refusal) → with_value cut value ≡ Ok whole → new ≡ whole
      taken (Ok u) ok err takes = cc
      taken (Err refusal) ok err takes = absurd (cc)
