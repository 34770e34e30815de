-- What is written behind P2 is read back: the data field, where it has octets, and Le.
use Rattle.std.proofs.Common.{◌≡◌, ◌≤◌, ℕ, ◌+◌, ◌%◌, ◌==◌, Bool, true, false, List, [], ◌∷◌, ◌++◌, length, Option, Some, None, refl, ap, ◌∙◌, arith, length-append, append-nil}
use Rattle.std.specs.Prelude.{IfSome}
use Rattle.std.proofs.lemmas.Bool.{eq-eqb, ne_eqb, eqb-true, eqb-false}
use Rattle.std.proofs.Math.Nat.{mod-eq_of_lt}
use Rattle.std.proofs.Math.Dec.{eqb-suc-zero}
use Rattle.std.proofs.Math.Seq.{take-append_seam, get_or-append_seam}
use Rattle.scql_model.specs.Form.{Tail, le_of, data_of, tail_of, data_in}
use Rattle.scql_model.specs.Spelling.{with_length, le_octets}

-- the data field that is there, where it has octets
abbrev pub body_of : List ℕ → Option (List ℕ)
body_of [] = None
body_of (octet ∷ octets) = Some (octet ∷ octets)

abbrev pub IsLe : Option ℕ → Type 0
IsLe le = IfSome le (λ le. (1 ≤ le) × (le ≤ 256))

abbrev pub tail : List ℕ → Option ℕ → Tail
tail field le = record { body = body_of field; le = le }

le-again : (le : ℕ) → 1 ≤ le → le ≤ 256 → le_of (le % 256) ≡ le
le-again le least most = go (le == 256) refl
  where
    go : (largest : Bool) → (le == 256) ≡ largest → le_of (le % 256) ≡ le
    go true at = let same : le ≡ 256 = eqb-true le 256 at in rw same refl
    go false at =
        let other : le ≡ 256 → ⊥ = eqb-false le 256 at in
        let few : le % 256 ≡ le = mod-eq_of_lt (omega (arith, least, most, other)) in
        rw (few, ne_eqb le 0 (λ none. omega (arith, none, least))) refl

data-alone : (field : List ℕ) → data_of (length field) field ≡ Some (record { body = Some field; le = None })
data-alone field = rw (eq-eqb (length field) (length field) refl) refl

data-before : (field : List ℕ) (octet : ℕ) → data_of (length field) (field ++ octet ∷ []) ≡ Some (record { body = Some field; le = Some (le_of octet) })
data-before field octet =
    let size : length (field ++ octet ∷ []) ≡ length field + 1 = length-append field (octet ∷ []) in
    rw (
      ne_eqb (length (field ++ octet ∷ [])) (length field) (λ same. omega (arith, size, same)),
      eq-eqb (length (field ++ octet ∷ [])) (length field + 1) size,
      take-append_seam field (octet ∷ []),
      get_or-append_seam field octet [] 0,
    ) refl

behind_length : (octet : ℕ) (octets back : List ℕ) → tail_of (with_length (octet ∷ octets) ++ back) ≡ data_of (length (octet ∷ octets)) ((octet ∷ octets) ++ back)
behind_length octet octets back = rw (eqb-suc-zero (length octets)) refl

pub tail-again : (field : List ℕ) (le : Option ℕ) → IsLe le → tail_of (with_length field ++ le_octets le) ≡ Some (tail field le)
tail-again [] None is = refl
tail-again [] (Some le) is = rw (le-again le is.0 is.1) refl
tail-again (octet ∷ octets) None is =
    behind_length octet octets [] ∙ (ap (data_of (length (octet ∷ octets))) (append-nil (octet ∷ octets)) ∙ data-alone (octet ∷ octets))
tail-again (octet ∷ octets) (Some le) is =
    behind_length octet octets (le % 256 ∷ []) ∙ (data-before (octet ∷ octets) (le % 256) ∙ rw (le-again le is.0 is.1) refl)

pub data-again : (field : List ℕ) (le : Option ℕ) → data_in (tail field le) ≡ field
data-again [] le = refl
data-again (octet ∷ octets) le = refl
