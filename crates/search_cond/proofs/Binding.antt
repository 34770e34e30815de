-- A condition at the place of its column holds of a row exactly where the row meets the condition.
use Rattle.std.proofs.Common.{◌≡◌, ℕ, ◌+◌, ◌<◌, suc, Bool, true, false, ◌&&◌, List, [], ◌∷◌, ◌++◌, length, get_or, drop, Option, Some, None, Bor, refl, sym, ◌∙◌, ap, inl, inr, arith}
use Rattle.std.specs.Prelude.{unwrap_or, option_copied, slice_get, position}
use Rattle.std.specs.List.{list_any, position_from}
use Rattle.std.specs.Str.{bytes_eq}
use Rattle.std.proofs.Math.Bool.{and_assoc, and-true}
use Rattle.std.proofs.lemmas.Bool.{cases_Bool}
use Rattle.std.proofs.lemmas.List.{drop_more}
use Rattle.std.proofs.lemmas.List.Folds.{list_all-append}
use Rattle.std.proofs.lemmas.Option.{none-some, same_Some, unwrap_or-slice_get}
use Rattle.std.proofs.lemmas.Iterator.Adapters.{position_from-zero}
use Rattle.scql_base.specs.declared.condition.Condition.{Condition}
use Rattle.scql_model.specs.Matching.{Columns, Values, value_of, meets, matches}
use Rattle.search_cond.specs.Bound.{first_unknown, is_met, passes}
use Rattle.search_cond.specs.declared.placed.Placed.{Placed}

-- a column that is found, counted from a number on: it is among the columns, and a row's value in it is the one at its place
record IsPlaceOf (columns : Columns) (values : Values) (column : List ℕ) (from k : ℕ) : Type 0 where
  at : ℕ
  is : k ≡ from + at
  known : list_any (bytes_eq column) columns ≡ true
  value : value_of columns values column ≡ get_or values at []

found_at : (columns : Columns) (values : Values) (column : List ℕ) (from k : ℕ) → position_from (bytes_eq column) from columns ≡ Some k → IsPlaceOf columns values column from k
found_at [] values column from k found = absurd (none-some k found)
found_at (c ∷ columns) [] column from k found =
    elim (cases_Bool (bytes_eq column c)) [
      | inl t ↦ (let same = same_Some from k (rw t at found) in record { at = 0; is = omega (arith, same); known = rw t refl; value = refl })
      | inr f ↦ (let there = found_at columns [] column (from + 1) k (rw f at found) in
          record { at = suc there.at; is = omega (arith, there.is); known = rw f there.known; value = refl })
    ]
found_at (c ∷ columns) (value ∷ values) column from k found =
    elim (cases_Bool (bytes_eq column c)) [
      | inl t ↦ (let same = same_Some from k (rw t at found) in record { at = 0; is = omega (arith, same); known = rw t refl; value = rw t refl })
      | inr f ↦ (let there = found_at columns values column (from + 1) k (rw f at found) in
          record { at = suc there.at; is = omega (arith, there.is); known = rw f there.known; value = rw f there.value })
    ]

not_found : {X : Type 0} (p : X → Bool) (xs : List X) (from : ℕ) → position_from p from xs ≡ None → list_any p xs ≡ false
not_found p [] from none = refl
not_found p (x ∷ xs) from none =
    elim (cases_Bool (p x)) [
      | inl t ↦ absurd (none-some from (sym (rw t at none)))
      | inr f ↦ rw f (not_found p xs (from + 1) (rw f at none))
    ]

pub known-Some : (columns : Columns) (column : List ℕ) (k : ℕ) → position (bytes_eq column) columns ≡ Some k → list_any (bytes_eq column) columns ≡ true
known-Some columns column k found = (found_at columns [] column 0 k (sym (position_from-zero (bytes_eq column) columns) ∙ found)).known

pub known-None : (columns : Columns) (column : List ℕ) → position (bytes_eq column) columns ≡ None → list_any (bytes_eq column) columns ≡ false
known-None columns column none = not_found (bytes_eq column) columns 0 (sym (position_from-zero (bytes_eq column) columns) ∙ none)

-- a row meets a condition exactly where the condition holds at the place of its column
meets_at : (columns : Columns) (values : Values) (c : Condition) (k at : ℕ) → k ≡ at → list_any (bytes_eq c.column) columns ≡ true → value_of columns values c.column ≡ get_or values at []
    → meets columns values c ≡ is_met values (record { place = k; comparison = c.comparison; value = c.value })
meets_at columns values c k at same known value = rw (known, value, same) refl

pub meets-is_met : (columns : Columns) (values : Values) (c : Condition) (k : ℕ) → position (bytes_eq c.column) columns ≡ Some k
    → meets columns values c ≡ is_met values (record { place = k; comparison = c.comparison; value = c.value })
meets-is_met columns values c k found =
    let there = found_at columns values c.column 0 k (sym (position_from-zero (bytes_eq c.column) columns) ∙ found) in
    meets_at columns values c k there.at (omega (arith, there.is)) there.known there.value

-- the first of conditions, where its column is known and where it isn't
pub first_unknown-known : (columns : Columns) (c : Condition) (rest : List Condition) → list_any (bytes_eq c.column) columns ≡ true → first_unknown columns (c ∷ rest) ≡ first_unknown columns rest
first_unknown-known columns c rest known = rw known refl

pub first_unknown-unknown : (columns : Columns) (c : Condition) (rest : List Condition) → list_any (bytes_eq c.column) columns ≡ false → first_unknown columns (c ∷ rest) ≡ Some c.column
first_unknown-unknown columns c rest unknown = rw unknown refl

-- what is left of a list begins with the element at that place
pub drop-first : {X : Type 0} (xs : List X) (i : ℕ) (x : X) → i < length xs → x ≡ get_or xs i x → drop i xs ≡ x ∷ drop (i + 1) xs
drop-first xs i x within is = drop_more xs i x within ∙ ap (λ y. y ∷ drop (i + 1) xs) (sym is)

-- one condition more is bound, and one less is left
pub met_more : (columns : Columns) (values : Values) (bound : List Placed) (p : Placed) (c : Condition) (rest : List Condition) → meets columns values c ≡ is_met values p
    → (passes values (bound ++ p ∷ []) && matches columns rest values) ≡ (passes values bound && matches columns (c ∷ rest) values)
met_more columns values bound p c rest same =
    ap (λ b. b && matches columns rest values) (list_all-append (is_met values) bound (p ∷ []) ∙ ap (λ b. passes values bound && b) (and-true (is_met values p) ∙ sym same))
    ∙ and_assoc (passes values bound) (meets columns values c) (matches columns rest values)

-- the value at a place, and nothing where there is none
pub value_there : (o : Option (Bor (List ℕ))) (none : Bor (List ℕ)) (values : Values) (k : ℕ) → option_copied o ≡ slice_get values k → none.now ≡ [] → (unwrap_or o none).now ≡ get_or values k []
value_there None none values k copied empty = empty ∙ ap (λ o. unwrap_or o []) copied ∙ unwrap_or-slice_get values k []
value_there (Some value) none values k copied empty = ap (λ o. unwrap_or o []) copied ∙ unwrap_or-slice_get values k []
