-- What finds room behind a list.
use Rattle.std.proofs.Common.{◌≡◌, ◌∙◌, ℕ, ◌+◌, ◌-◌, ◌≤◌, List, ◌++◌, length, take, min, ap, sym, arith}
use Rattle.std.proofs.Math.Seq.{take-append-add}
use Rattle.std.proofs.lemmas.List.{take_min}

min-swap : (a b : ℕ) → min a b ≡ min b a
min-swap a b = omega arith

pub take-append-room : (most : ℕ) (xs ys : List ℕ) → length xs ≤ most → xs ++ take (min (length ys) (most - length xs)) ys ≡ take most (xs ++ ys)
take-append-room most xs ys fits =
    let whole : length xs + (most - length xs) ≡ most = omega (arith, fits) in
    let same : take (min (length ys) (most - length xs)) ys ≡ take (most - length xs) ys = ap (λ (n : ℕ). take n ys) (min-swap (length ys) (most - length xs)) ∙ take_min (most - length xs) ys in
    ap (λ (zs : List ℕ). xs ++ zs) same ∙ sym (take-append-add xs ys (most - length xs)) ∙ ap (λ (n : ℕ). take n (xs ++ ys)) whole
