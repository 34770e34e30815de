-- Names are joined one after another.
use Rattle.std.proofs.Common.{◌≡◌, ℕ, true, List, [], ◌∷◌, ◌++◌, refl, sym, ap, ◌∙◌, append_assoc}
use Rattle.std.specs.List.{join_with_byte, list_all}
use Rattle.std.proofs.lemmas.Bool.{false≢true}
use Rattle.std.proofs.lemmas.List.{append-nil}
use Rattle.scql_base.specs.Name.{is_name}
use Rattle.dictionaries.specs.Told.{with_name}

-- a text with all these names behind
pub joined_onto : List ℕ → List (List ℕ) → List ℕ
joined_onto text [] = text
joined_onto text (name ∷ names) = joined_onto (with_name text name) names

-- names with a comma before each
commas : List (List ℕ) → List ℕ
commas [] = []
commas (name ∷ names) = 0x2C ∷ (name ++ commas names)

onto-commas : (octet : ℕ) (text : List ℕ) (names : List (List ℕ)) → joined_onto (octet ∷ text) names ≡ (octet ∷ text) ++ commas names
unfolding joined_onto commas
onto-commas octet text [] = sym (append-nil (octet ∷ text))
onto-commas octet text (name ∷ names) = onto-commas octet (text ++ 0x2C ∷ name) names ∙ append_assoc (octet ∷ text) (0x2C ∷ name) (commas names)

join-commas : (name : List ℕ) (names : List (List ℕ)) → join_with_byte 0x2C (name ∷ names) ≡ name ++ commas names
unfolding commas
join-commas name [] = sym (append-nil name)
join-commas name (next ∷ names) = ap (λ (rest : List ℕ). name ++ 0x2C ∷ rest) (join-commas next names)

pub joined-names : (names : List (List ℕ)) → list_all is_name names ≡ true → joined_onto [] names ≡ join_with_byte 0x2C names
unfolding joined_onto
joined-names [] each = refl
joined-names ([] ∷ names) each = absurd (false≢true each)
joined-names ((octet ∷ octets) ∷ names) each = onto-commas octet octets names ∙ sym (join-commas (octet ∷ octets) names)

pub joined-none : (text : List ℕ) → joined_onto text [] ≡ text
unfolding joined_onto
joined-none text = refl

pub joined-one : (text name : List ℕ) (names : List (List ℕ)) → joined_onto text (name ∷ names) ≡ joined_onto (with_name text name) names
unfolding joined_onto
joined-one text name names = refl
