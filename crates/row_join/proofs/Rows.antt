-- The rows of combinations by their places, and their values.
use Rattle.std.proofs.Common.{◌≡◌, ℕ, zero, suc, ◌<◌, ◌≤◌, true, List, [], ◌∷◌, length, Some, get_or, refl, sym, ap, subst, arith}
use Rattle.std.specs.Prelude.{slice_get}
use Rattle.std.specs.List.{list_all}
use Rattle.std.proofs.lemmas.Bool.{and_parts, leb-true}
use Rattle.std.proofs.lemmas.Option.{none-some, same_Some}
use Rattle.scql_base.specs.Row.{is_narrow}
use Rattle.scql_model.specs.Matching.{Values}
use Rattle.row_join.specs.declared.column.Column.{Column}
use Rattle.row_join.specs.Joins.{value_at}
use Rattle.row_join.specs.Links.{value_in}
use Rattle.row_join.specs.Places.{row_at, rows_of}

rows_of-at : (tables : List (List Values)) (places : List ℕ) (i : ℕ) → i < length tables → i < length places → get_or (rows_of tables places) i [] ≡ row_at (get_or tables i []) (get_or places i 0)
rows_of-at [] places i h k = absurd (omega arith)
rows_of-at (rows ∷ tables) [] i h k = absurd (omega arith)
rows_of-at (rows ∷ tables) (place ∷ places) zero h k = refl
rows_of-at (rows ∷ tables) (place ∷ places) (suc i) h k = rows_of-at tables places i (omega arith) (omega arith)

rows_of-past : (tables : List (List Values)) (places : List ℕ) (i : ℕ) → length tables ≤ i → get_or (rows_of tables places) i [] ≡ []
rows_of-past [] places i h = refl
rows_of-past (rows ∷ tables) [] i h = refl
rows_of-past (rows ∷ tables) (place ∷ places) zero h = absurd (omega arith)
rows_of-past (rows ∷ tables) (place ∷ places) (suc i) h = rows_of-past tables places i (omega arith)

rows_of-beyond : (tables : List (List Values)) (places : List ℕ) (i : ℕ) → length places ≤ i → get_or (rows_of tables places) i [] ≡ []
rows_of-beyond [] places i h = refl
rows_of-beyond (rows ∷ tables) [] i h = refl
rows_of-beyond (rows ∷ tables) (place ∷ places) zero h = absurd (omega arith)
rows_of-beyond (rows ∷ tables) (place ∷ places) (suc i) h = rows_of-beyond tables places i (omega arith)

-- a column's value stands in the row at its object's place
pub value_at-place : (tables : List (List Values)) (places : List ℕ) (column : Column) → column.object < length tables → column.object < length places
    → value_in (row_at (get_or tables column.object []) (get_or places column.object 0)) column.place ≡ value_at (rows_of tables places) column
value_at-place tables places column h k = ap (λ row. get_or row column.place []) (sym (rows_of-at tables places column.object h k))

pub value_at-past : (tables : List (List Values)) (places : List ℕ) (column : Column) → length tables ≤ column.object → ◌≡◌ {A = List ℕ} [] (value_at (rows_of tables places) column)
value_at-past tables places column h = ap (λ row. get_or row column.place []) (sym (rows_of-past tables places column.object h))

pub value_at-beyond : (tables : List (List Values)) (places : List ℕ) (column : Column) → length places ≤ column.object → ◌≡◌ {A = List ℕ} [] (value_at (rows_of tables places) column)
value_at-beyond tables places column h = ap (λ row. get_or row column.place []) (sym (rows_of-beyond tables places column.object h))

-- what is got is the value that stands there
pub got-at : (row : Values) (i : ℕ) (value : List ℕ) → slice_get row i ≡ Some value → value ≡ value_in row i
got-at [] i value is = absurd (none-some value is)
got-at (x ∷ row) zero value is = sym (same_Some x value is)
got-at (x ∷ row) (suc i) value is = got-at row i value is

-- a row has no longer value
pub narrow-at : (row : Values) (i : ℕ) (value : List ℕ) → list_all is_narrow row ≡ true → slice_get row i ≡ Some value → length value ≤ 200
narrow-at [] i value all is = absurd (none-some value is)
narrow-at (x ∷ row) zero value all is = subst (λ (v : List ℕ). length v ≤ 200) (same_Some x value is) (leb-true (length x) 200 (and_parts (is_narrow x) (list_all is_narrow row) all).0)
narrow-at (x ∷ row) (suc i) value all is = narrow-at row i value (and_parts (is_narrow x) (list_all is_narrow row) all).1 is
