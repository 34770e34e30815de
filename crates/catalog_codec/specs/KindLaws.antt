-- What a kind owes comes from what the field of its records owes, and from its marks.
use Rattle.std.proofs.Common.{◌≡◌, ℕ, ◌==◌, Bool, true, false, List, [], ◌∷◌, Option, Some, None, if◌then◌else◌, length, refl, ◌∙◌, ap}
use Rattle.std.proofs.lemmas.Bool.{cond-false, eqb-true, both_ways}
use Rattle.std.specs.Option.{option_and_then}
use Rattle.scql_model.specs.Fields.{marked_at}
use Rattle.scql_model.proofs.FieldLaws.{IsLastField, whole_took, whole_again}
use Rattle.catalog_codec.specs.Kinds.{Kind, IsKind, starts, HaveOtherMarks}

pub IsKind-from_IsLastField : {X : Type 0} (kind : Kind X) → IsLastField kind.form
    → ((x : X) → starts kind.marks (kind.form.spell x) ≡ true)
    → ((octets : List ℕ) → starts kind.marks octets ≡ false → kind.form.read octets ≡ None) → IsKind kind
IsKind-from_IsLastField {X} kind is begins others = record {
  begins = begins;
  again = whole_again kind.form is;
  took = whole_took kind.form is;
  others = λ octets unmarked. ap (option_and_then (λ (a : X × List ℕ). if length a.1 == 0 then Some a.0 else None)) (others octets unmarked);
}

pub others-marked : {A : Type 0} (mark : ℕ) (f : List ℕ → Option (A × List ℕ)) (octets : List ℕ) → starts (λ octet. octet == mark) octets ≡ false → marked_at mark f octets ≡ None
others-marked mark f [] unmarked = refl
others-marked mark f (octet ∷ octets) unmarked = cond-false (octet == mark) (f octets) None unmarked

-- an octet that is no mark of another kind is the one mark of a kind
pub other_mark : (mark : ℕ) (marks : ℕ → Bool) → marks mark ≡ false → (octet : ℕ) → (octet == mark) ≡ true → marks octet ≡ false
other_mark mark marks unmarked octet is = ap marks (eqb-true octet mark is) ∙ unmarked

pub HaveOtherMarks-sym : {X Y : Type 0} (kind : Kind X) (other : Kind Y) → HaveOtherMarks kind other → HaveOtherMarks other kind
HaveOtherMarks-sym kind other apart octet marked = unmarked (kind.marks octet) refl
  where
    unmarked : (mark : Bool) → kind.marks octet ≡ mark → kind.marks octet ≡ false
    unmarked true is = absurd (both_ways (other.marks octet) (apart octet is) marked)
    unmarked false is = is
