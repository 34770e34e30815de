-- A value in a column that isn't there.
use Rattle.std.proofs.Common.{◌≡◌, ℕ, ◌+◌, List, [], ◌∷◌, None, refl, sym, ◌∙◌, inl, inr}
use Rattle.std.specs.List.{position, position_from}
use Rattle.std.specs.Str.{bytes_eq}
use Rattle.std.proofs.lemmas.Bool.{cases_Bool}
use Rattle.std.proofs.lemmas.Iterator.Adapters.{position_from-zero}
use Rattle.std.proofs.lemmas.Option.{none-some}
use Rattle.scql_model.specs.Matching.{Columns, Values, value_of}

pub value-nowhere : (all : Columns) (values : Values) (name : List ℕ) → position (bytes_eq name) all ≡ None → [] ≡ value_of all values name
value-nowhere all values name none = from all values 0 (sym (position_from-zero (bytes_eq name) all) ∙ none)
  where
    from : (all : Columns) (values : Values) (i : ℕ) → position_from (bytes_eq name) i all ≡ None → [] ≡ value_of all values name
    from [] values i none = refl
    from (c ∷ all) [] i none = refl
    from (c ∷ all) (v ∷ values) i none = elim (cases_Bool (bytes_eq name c)) [
      | inl t ↦ absurd (none-some i (sym (rw t at none)))
      | inr f ↦ rw f (from all values (i + 1) (rw f at none))
    ]
