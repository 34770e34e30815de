-- Rows found by their stamps are those found by their positions, where stamps rise.
use Rattle.std.proofs.Common.{◌≡◌, ℕ, suc, ◌<◌, ◌≤◌, ◌==◌, nat_lt, nat_le, Bool, true, false, ◌&&◌, List, [], ◌∷◌, map, filter, Option, Some, None, option_map, refl, sym, ◌∙◌, ap, subst, inl, inr, arith, one-add}
use Rattle.std.specs.List.{find, AllByRecursion}
use Rattle.std.proofs.lemmas.Bool.{cases_Bool, ltb-true, ltb-false, lt-ltb, le-ltb, le-leb, leb-true, leb-false, eqb-true, eqb-false, eq-eqb, ne_eqb, or_right}
use Rattle.std.proofs.lemmas.Option.{none-some, same_Some}
use Rattle.eeprom.specs.Slots.{Rises}
use Rattle.eeprom.proofs.InOrder.{counts, counts_not}
use Rattle.scql_model.specs.Objects.{StampedRow}
use Rattle.scql_model.specs.Moves.{first_row}
use Rattle.scql_model.specs.Shown.{rows_before, is_there}
use Rattle.scql_model.specs.Reads.{PositionedRow, one_further, least_from, position_behind, row_on}

abbrev pub stamp_of : StampedRow → ℕ
stamp_of r = r.stamp

abbrev pub values_of : List StampedRow → List (List (List ℕ))
values_of rows = map (λ (r : StampedRow). r.values) rows

-- a row with its position
abbrev pub at_position : List StampedRow → StampedRow → PositionedRow
at_position rows r = record { position = rows_before r.stamp rows; values = r.values }

abbrev pub Test : Type 0
Test = List (List ℕ) → Bool

-- the first row from a stamp on that passes, and the row of a stamp, if it passes
abbrev pub first_from : ℕ → Test → List StampedRow → Option StampedRow
first_from stamp test rows = find (λ (r : StampedRow). nat_le stamp r.stamp && test r.values) rows

abbrev pub passing_at : ℕ → Test → List StampedRow → Option StampedRow
passing_at stamp test rows = find (λ (r : StampedRow). r.stamp == stamp && test r.values) rows

before_more : (s : ℕ) (r : StampedRow) (rows : List StampedRow) → r.stamp < s → rows_before s (r ∷ rows) ≡ suc (rows_before s rows)
before_more s r rows less = counts (λ (x : StampedRow). nat_lt x.stamp s) r rows (lt-ltb r.stamp s less) ∙ one-add (rows_before s rows)

before_same : (s : ℕ) (r : StampedRow) (rows : List StampedRow) → s ≤ r.stamp → rows_before s (r ∷ rows) ≡ rows_before s rows
before_same s r rows least = counts_not (λ (x : StampedRow). nat_lt x.stamp s) r rows (le-ltb r.stamp s least)

before_none : (s : ℕ) (rows : List StampedRow) → AllByRecursion (λ (r : StampedRow). s ≤ r.stamp) rows → rows_before s rows ≡ 0
before_none s [] above = refl
before_none s (r ∷ rows) above = before_same s r rows above.0 ∙ before_none s rows above.1

pub before_zero : (rows : List StampedRow) → rows_before 0 rows ≡ 0
before_zero [] = refl
before_zero (r ∷ rows) = before_same 0 r rows (omega arith) ∙ before_zero rows

-- all that is above a number isn't below it, or a lesser one
at_least : (s t : ℕ) (rows : List StampedRow) → s ≤ t → AllByRecursion (λ (r : StampedRow). t < r.stamp) rows → AllByRecursion (λ (r : StampedRow). s ≤ r.stamp) rows
at_least s t [] le above = tt
at_least s t (r ∷ rows) le above = (let h : t < r.stamp = above.0 in omega arith, at_least s t rows le above.1)

-- what is found behind a row has a greater stamp, and so its position is one further
found_behind : (p : StampedRow → Bool) (r : StampedRow) (all rows : List StampedRow) → AllByRecursion (λ (x : StampedRow). r.stamp < x.stamp) rows
    → option_map (at_position (r ∷ all)) (find p rows) ≡ option_map one_further (option_map (at_position all) (find p rows))
found_behind p r all [] above = refl
found_behind p r all (x ∷ rows) above =
    elim (cases_Bool (p x)) [
      | inl t ↦ rw t (ap (λ (n : ℕ). Some (let row : PositionedRow = record { position = n; values = x.values } in row)) (before_more x.stamp r all above.0))
      | inr f ↦ rw f (found_behind p r all rows above.1)
    ]

pub first_is_least : (s : ℕ) (test : Test) (rows : List StampedRow) → Rises stamp_of rows
    → option_map (at_position rows) (first_from s test rows) ≡ least_from (rows_before s rows) test (values_of rows)
first_is_least s test [] rises = refl
first_is_least s test (r ∷ rows) rises =
    elim (cases_Bool (nat_le s r.stamp)) [
      | inl t ↦ (let least = leb-true s r.stamp t in
          let none = before_none s rows (at_least s r.stamp rows least rises.0) in
          rw (t, before_same s r rows least, none)
          (elim (cases_Bool (test r.values)) [
            | inl u ↦ rw u (ap (λ (n : ℕ). Some (let row : PositionedRow = record { position = n; values = r.values } in row)) (before_same r.stamp r rows (omega arith) ∙ before_none r.stamp rows (at_least r.stamp r.stamp rows (omega arith) rises.0)))
            | inr g ↦ (rw g (found_behind (λ (x : StampedRow). nat_le s x.stamp && test x.values) r rows rows rises.0
                ∙ ap (option_map one_further) (subst (λ (n : ℕ). option_map (at_position rows) (first_from s test rows) ≡ least_from n test (values_of rows)) none (first_is_least s test rows rises.1))))
          ]))
      | inr f ↦ (let less = leb-false s r.stamp f in
          rw (f, before_more s r rows less)
          (found_behind (λ (x : StampedRow). nat_le s x.stamp && test x.values) r rows rows rises.0 ∙ ap (option_map one_further) (first_is_least s test rows rises.1)))
    ]

-- what is above a number hasn't that number
none_there : (s : ℕ) (rows : List StampedRow) → AllByRecursion (λ (r : StampedRow). s < r.stamp) rows → is_there s rows ≡ false
none_there s [] above = refl
none_there s (r ∷ rows) above = rw (ne_eqb r.stamp s (λ (e : r.stamp ≡ s). let h : s < r.stamp = above.0 in omega arith)) (none_there s rows above.1)

none_at : (s : ℕ) (test : Test) (rows : List StampedRow) → AllByRecursion (λ (r : StampedRow). s < r.stamp) rows → passing_at s test rows ≡ None
none_at s test [] above = refl
none_at s test (r ∷ rows) above = rw (ne_eqb r.stamp s (λ (e : r.stamp ≡ s). let h : s < r.stamp = above.0 in omega arith)) (none_at s test rows above.1)

above_too : (s t : ℕ) (rows : List StampedRow) → s ≤ t → AllByRecursion (λ (r : StampedRow). t < r.stamp) rows → AllByRecursion (λ (r : StampedRow). s < r.stamp) rows
above_too s t [] le above = tt
above_too s t (r ∷ rows) le above = (let h : t < r.stamp = above.0 in omega arith, above_too s t rows le above.1)

next_above : (s : ℕ) (rows : List StampedRow) → AllByRecursion (λ (r : StampedRow). s < r.stamp) rows → AllByRecursion (λ (r : StampedRow). suc s ≤ r.stamp) rows
next_above s [] above = tt
next_above s (r ∷ rows) above = (let h : s < r.stamp = above.0 in omega arith, next_above s rows above.1)

position_behind-suc : (n : ℕ) (there : Bool) → position_behind (suc n) there ≡ suc (position_behind n there)
position_behind-suc n true = omega arith
position_behind-suc n false = refl

-- the rows before the next stamp are those before a stamp, and the one that has it
pub before_next : (s : ℕ) (rows : List StampedRow) → Rises stamp_of rows → rows_before (suc s) rows ≡ position_behind (rows_before s rows) (is_there s rows)
before_next s [] rises = refl
before_next s (r ∷ rows) rises =
    elim (cases_Bool (nat_lt r.stamp s)) [
      | inl t ↦ (let less = ltb-true r.stamp s t in
          before_more (suc s) r rows (omega arith) ∙ ap suc (before_next s rows rises.1)
          ∙ rw (before_more s r rows less, ne_eqb r.stamp s (λ (e : r.stamp ≡ s). omega arith)) (sym (position_behind-suc (rows_before s rows) (is_there s rows))))
      | inr f ↦ (let least = ltb-false r.stamp s f in
          let none = before_none s rows (at_least s r.stamp rows least rises.0) in
          elim (cases_Bool (r.stamp == s)) [
            | inl t ↦ (let is = eqb-true r.stamp s t in
                let behind = next_above s rows (above_too s r.stamp rows least rises.0) in
                rw (before_more (suc s) r rows (omega arith), before_none (suc s) rows behind, before_same s r rows least, none, t) (omega arith))
            | inr g ↦ (let ne = eqb-false r.stamp s g in
                let behind = above_too s r.stamp rows least rises.0 in
                rw (before_same (suc s) r rows (omega arith), before_none (suc s) rows (next_above s rows behind), before_same s r rows least, none, g, none_there s rows behind) refl)
          ])
    ]

pub at_is_on : (s : ℕ) (test : Test) (rows : List StampedRow) → Rises stamp_of rows
    → option_map (λ (r : StampedRow). r.values) (passing_at s test rows) ≡ row_on (rows_before s rows) (is_there s rows) test (values_of rows)
at_is_on s test [] rises = refl
at_is_on s test (r ∷ rows) rises =
    elim (cases_Bool (nat_lt r.stamp s)) [
      | inl t ↦ (let less = ltb-true r.stamp s t in
          rw (ne_eqb r.stamp s (λ (e : r.stamp ≡ s). omega arith), before_more s r rows less) (at_is_on s test rows rises.1))
      | inr f ↦ (let least = ltb-false r.stamp s f in
          let behind = above_too s r.stamp rows least rises.0 in
          rw (before_same s r rows least, before_none s rows (at_least s r.stamp rows least rises.0))
          (elim (cases_Bool (r.stamp == s)) [
            | inl t ↦ (rw t (elim (cases_Bool (test r.values)) [
              | inl u ↦ rw u refl
              | inr g ↦ rw (g, none_at s test rows behind) refl
            ]))
            | inr g ↦ rw (g, none_at s test rows behind, none_there s rows behind) refl
          ]))
    ]

-- what is found is there
pub there-find : (p : StampedRow → Bool) (rows : List StampedRow) (r : StampedRow) → find p rows ≡ Some r → is_there r.stamp rows ≡ true
there-find p [] r found = absurd (none-some r found)
there-find p (x ∷ rows) r found =
    elim (cases_Bool (p x)) [
      | inl t ↦ rw (eq-eqb x.stamp r.stamp (ap stamp_of (same_Some x r (rw t at found)))) refl
      | inr f ↦ or_right (x.stamp == r.stamp) (is_there r.stamp rows) (there-find p rows r (rw f at found))
    ]

-- every row stands from stamp 0 on
pub first_from-zero : (test : Test) (rows : List StampedRow) → find (λ (r : StampedRow). test r.values) rows ≡ first_from 0 test rows
first_from-zero test [] = refl
first_from-zero test (r ∷ rows) = rw (le-leb 0 r.stamp (omega arith), first_from-zero test rows) refl

pub first_row-narrowed : (f : StampedRow → StampedRow) (p : StampedRow → Bool) (rows : List StampedRow) → first_row (map f (filter p rows)) ≡ option_map f (find p rows)
first_row-narrowed f p [] = refl
first_row-narrowed f p (r ∷ rows) =
    elim (cases_Bool (p r)) [
      | inl t ↦ rw t refl
      | inr g ↦ rw g (first_row-narrowed f p rows)
    ]
