-- UPDATE gives each named column its new value, and leaves all other values and their number.
use Rattle.std.proofs.Common.{◌≡◌, ℕ, true, suc, List, [], ◌∷◌, length, refl, ap, sym, inl, inr, arith}
use Rattle.std.specs.List.{list_any}
use Rattle.std.specs.Str.{bytes_eq}
use Rattle.std.proofs.lemmas.Bool.{cases_Bool, false≢true}
use Rattle.std.proofs.lemmas.Slice.Eq.{bytes_eq-Decides}
use Rattle.scql_model.specs.Matching.{Columns, Values, value_of}
use Rattle.scql_model.specs.Writing.{Assignment, assigned, all_assigned}

pub length-all_assigned : (assignments : List Assignment) (columns : Columns) (values : Values) → length (all_assigned assignments columns values) ≡ length values
length-all_assigned assignments [] values = refl
length-all_assigned assignments (column ∷ columns) [] = refl
length-all_assigned assignments (column ∷ columns) (value ∷ values) = ap suc (length-all_assigned assignments columns values)

-- in each column that has a value
pub value_of-all_assigned : (assignments : List Assignment) (columns : Columns) (values : Values) (column : List ℕ)
    → list_any (bytes_eq column) columns ≡ true → length columns ≡ length values
    → value_of columns (all_assigned assignments columns values) column ≡ assigned assignments column (value_of columns values column)
value_of-all_assigned assignments [] values column there same = absurd (false≢true there)
value_of-all_assigned assignments (c ∷ columns) [] column there same = absurd (omega arith)
value_of-all_assigned assignments (c ∷ columns) (value ∷ values) column there same =
    elim (cases_Bool (bytes_eq column c)) [
      | inl t ↦ (let is : column ≡ c = (bytes_eq-Decides column c).0 t in rw t (ap (λ name. assigned assignments name value) (sym is)))
      | inr f ↦ rw f (value_of-all_assigned assignments columns values column (rw f at there) (omega arith))
    ]
