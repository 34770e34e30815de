-- What can't be bound names a column that isn't there.
use Rattle.std.proofs.Common.{◌≡◌, ℕ, false, not, List, [], ◌∷◌, map, Option, Some, None, Ok, Err, Result, refl, sym, ◌∙◌, inl, inr}
use Rattle.std.specs.Prelude.{IfErr}
use Rattle.std.specs.Result.{result_ok}
use Rattle.std.specs.List.{find, list_all, list_any}
use Rattle.std.specs.Str.{bytes_eq}
use Rattle.std.proofs.lemmas.Bool.{cases_Bool}
use Rattle.std.proofs.lemmas.Option.{none-some}
use Rattle.scql_base.specs.declared.condition.Condition.{Condition}
use Rattle.scql_model.specs.Matching.{Columns}
use Rattle.search_cond.specs.Bound.{first_unknown}
use Rattle.scql_model.specs.Resolving.{AreKnown}

-- the error of a result that has no value
pub err-none : {T E : Type 0} (P : E → Type 0) (r : Result T E) (o : Option T) → o ≡ result_ok r → o ≡ None → IfErr r P → (e : E) × P e
err-none P (Ok y) o is none said = absurd (none-some y (sym none ∙ is))
err-none P (Err e) o is none said = (e, said)

unknown-all : (columns : Columns) (names : List (List ℕ)) (name : List ℕ) → find (λ (column : List ℕ). not (list_any (bytes_eq column) columns)) names ≡ Some name
    → list_all (λ (column : List ℕ). list_any (bytes_eq column) columns) names ≡ false
unknown-all columns [] name found = absurd (none-some name found)
unknown-all columns (n ∷ names) name found =
    elim (cases_Bool (list_any (bytes_eq n) columns)) [
      | inl t ↦ rw t (unknown-all columns names name (rw t at found))
      | inr f ↦ rw f refl
    ]

-- conditions with an unknown column aren't known
pub AreKnown-unknown : (columns : Columns) (conditions : List Condition) (name : List ℕ) → first_unknown columns conditions ≡ Some name → AreKnown columns conditions ≡ false
AreKnown-unknown columns conditions name found = unknown-all columns (map (λ (c : Condition). c.column) conditions) name found
