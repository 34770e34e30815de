-- Lists in records: what is read one after another is the list, and what is put one after another is its spelling.
use Rattle.std.proofs.Common.{◌≡◌, ℕ, suc, ◌+◌, ◌<◌, ◌≤◌, List, [], ◌∷◌, ◌++◌, length, drop, get_or, Option, Some, None, option_map, refl, sym, ◌∙◌, ap, arith, append-nil, append_assoc, length-append, drop-cons}
use Rattle.std.specs.Option.{option_and_then}
use Rattle.std.specs.List.{flat_map}
use Rattle.std.proofs.Math.Seq.{drop-length}
use Rattle.scql_model.specs.Fields.{many_at, with_front}

-- what was read before, in front of what is still to come
abbrev pub behind : {A : Type 0} → List A → Option (List A × List ℕ) → Option (List A × List ℕ)
behind {A} xs more = option_map (λ (r : List A × List ℕ). (xs ++ r.0, r.1)) more

behind-none : {A : Type 0} (more : Option (List A × List ℕ)) → behind [] more ≡ more
behind-none None = refl
behind-none (Some r) = refl

behind-more : {A : Type 0} (xs : List A) (x : A) (more : Option (List A × List ℕ)) → behind xs (option_map (with_front x) more) ≡ behind (xs ++ x ∷ []) more
behind-more xs x None = refl
behind-more {A} xs x (Some r) = ap (λ (front : List A). Some (front, r.1)) (sym (append_assoc xs (x ∷ []) r.0))

-- before the first is read
pub all_to_read : {A : Type 0} (read : List ℕ → Option (A × List ℕ)) (count left : ℕ) (octets : List ℕ) → left ≡ count → behind [] (many_at read left octets) ≡ many_at read count octets
all_to_read read count left octets all = behind-none (many_at read left octets) ∙ ap (λ (n : ℕ). many_at read n octets) all

-- one more is read
pub one_more_read : {A : Type 0} (read : List ℕ → Option (A × List ℕ)) (left fewer : ℕ) (xs : List A) (x : A) (octets rest : List ℕ) (all : Option (List A × List ℕ))
    → behind xs (many_at read left octets) ≡ all → left ≡ fewer + 1 → Some (x, rest) ≡ read octets → behind (xs ++ x ∷ []) (many_at read fewer rest) ≡ all
one_more_read {A} read left fewer xs x octets rest all so_far one here =
    let next : left ≡ suc fewer = omega (arith, one) in
    let step : many_at read left octets ≡ option_map (with_front x) (many_at read fewer rest)
    = ap (λ (n : ℕ). many_at read n octets) next ∙ ap (option_and_then (λ (y : A × List ℕ). option_map (with_front y.0) (many_at read fewer y.1))) (sym here) in
    sym (behind-more xs x (many_at read fewer rest)) ∙ (ap (behind xs) (sym step) ∙ so_far)

-- where one can't be read, they can't
pub none_read : {A : Type 0} (read : List ℕ → Option (A × List ℕ)) (left fewer : ℕ) (xs : List A) (octets : List ℕ) (all : Option (List A × List ℕ))
    → behind xs (many_at read left octets) ≡ all → left ≡ fewer + 1 → None ≡ read octets → None ≡ all
none_read {A} read left fewer xs octets all so_far one here =
    let next : left ≡ suc fewer = omega (arith, one) in
    let step : many_at read left octets ≡ None
    = ap (λ (n : ℕ). many_at read n octets) next ∙ ap (option_and_then (λ (y : A × List ℕ). option_map (with_front y.0) (many_at read fewer y.1))) (sym here) in
    ap (behind xs) (sym step) ∙ so_far

-- all are read
pub all_read : {A : Type 0} (read : List ℕ → Option (A × List ℕ)) (left : ℕ) (xs : List A) (octets : List ℕ) (all : Option (List A × List ℕ))
    → behind xs (many_at read left octets) ≡ all → left ≡ 0 → Some (xs, octets) ≡ all
all_read {A} read left xs octets all so_far none =
    ap (λ (front : List A). Some (front, octets)) (sym (append-nil xs)) ∙ (ap (λ (n : ℕ). behind xs (many_at read n octets)) (sym none) ∙ so_far)

-- one more is put, for which there is room
pub one_more_put : {A : Type 0} (spell : A → List ℕ) (xs : List A) (i : ℕ) (x : A) (out whole : List ℕ) → i < length xs → x ≡ get_or xs i x
    → out ++ flat_map spell (drop i xs) ≡ whole → (out ++ spell x) ++ flat_map spell (drop (i + 1) xs) ≡ whole
one_more_put {A} spell xs i x out whole within here so_far =
    let after : suc i ≡ i + 1 = omega arith in
    let next : drop i xs ≡ x ∷ drop (i + 1) xs = drop-cons xs i x within ∙ (ap (λ (y : A). y ∷ drop (suc i) xs) (sym here) ∙ ap (λ (n : ℕ). x ∷ drop n xs) after) in
    append_assoc out (spell x) (flat_map spell (drop (i + 1) xs)) ∙ (ap (λ (ys : List A). out ++ flat_map spell ys) (sym next) ∙ so_far)

pub room_for_one : {A : Type 0} (spell : A → List ℕ) (xs : List A) (i : ℕ) (x : A) (out whole : List ℕ) → i < length xs → x ≡ get_or xs i x
    → out ++ flat_map spell (drop i xs) ≡ whole → length out + length (spell x) ≤ length whole
room_for_one {A} spell xs i x out whole within here so_far =
    let more : (out ++ spell x) ++ flat_map spell (drop (i + 1) xs) ≡ whole = one_more_put spell xs i x out whole within here so_far in
    let front = length-append out (spell x) in
    let all = length-append (out ++ spell x) (flat_map spell (drop (i + 1) xs)) in
    let same = ap length more in
    omega (arith, front, all, same)

-- all are put
pub all_put : {A : Type 0} (spell : A → List ℕ) (xs : List A) (i : ℕ) (out whole : List ℕ) → i ≡ length xs → out ++ flat_map spell (drop i xs) ≡ whole → out ≡ whole
all_put {A} spell xs i out whole past so_far =
    let none : drop i xs ≡ [] = ap (λ (n : ℕ). drop n xs) past ∙ drop-length xs in
    sym (append-nil out) ∙ (ap (λ (ys : List A). out ++ flat_map spell ys) (sym none) ∙ so_far)
