-- Names are joined one after another.
use Rattle.std.proofs.Common.{◌≡◌, ℕ, List, [], ◌∷◌, ◌++◌, sym, ap, append_assoc, ◌∙◌}
use Rattle.std.specs.List.{join_with_byte}
use Rattle.std.proofs.lemmas.List.{append-nil}

-- names with a comma before each
pub commas : List (List ℕ) → List ℕ
commas [] = []
commas (name ∷ names) = 0x2C ∷ (name ++ commas names)

pub join-commas : (name : List ℕ) (names : List (List ℕ)) → join_with_byte 0x2C (name ∷ names) ≡ name ++ commas names
unfolding commas
join-commas name [] = sym (append-nil name)
join-commas name (next ∷ names) = ap (λ (rest : List ℕ). name ++ 0x2C ∷ rest) (join-commas next names)

pub commas-none : (text : List ℕ) → text ++ commas [] ≡ text
unfolding commas
commas-none text = append-nil text

pub commas-more : (text name : List ℕ) (names : List (List ℕ)) → text ++ commas (name ∷ names) ≡ ((text ++ 0x2C ∷ []) ++ name) ++ commas names
unfolding commas
commas-more text name names = sym (append_assoc (text ++ 0x2C ∷ []) name (commas names) ∙ append_assoc text (0x2C ∷ []) (name ++ commas names))
