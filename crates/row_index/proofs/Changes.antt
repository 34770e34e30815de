-- What becomes of places in order when one is put among them.
use Rattle.std.proofs.Common.{◌≡◌, ℕ, suc, cond, ltb, leb, eqb, List, [], ◌∷◌, length, take, drop, inl, inr, refl, sym, ap, ◌∙◌, arith, subst}
use Rattle.std.specs.List.{count_by}
use Rattle.std.proofs.lemmas.Bool.{cases_Bool, eq-eqb, eqb-true}
use Rattle.std.proofs.lemmas.List.{take-append-drop}
use Rattle.std.proofs.lemmas.List.Sums.{sum_by-append}
use Rattle.eeprom.specs.Slots.{Rises, AreApart, has, in_order, put_in_order}
use Rattle.eeprom.proofs.InOrder.{counts, counts_not, count_by-cons, count_by-in_order, sum_by-put_in_order, in_order-middle, Rises-in_order}
use Rattle.row_index.proofs.Searches.{put_in_order-insert}

-- one more
pub length-put_in_order : {X : Type 0} (key : X → ℕ) (x : X) (xs : List X) → length (put_in_order key x xs) ≡ suc (length xs)
length-put_in_order key x [] = refl
length-put_in_order key x (y ∷ ys) =
    elim (cases_Bool (ltb (key x) (key y))) [
      | inl t ↦ rw t refl
      | inr f ↦ rw f (ap suc (length-put_in_order key x ys))
    ]

AreApart-more : {X : Type 0} (key : X → ℕ) (x : X) (xs : List X) → AreApart key xs → count_by (has key (key x)) xs ≡ 0 → AreApart key (x ∷ xs)
AreApart-more key x xs apart none = λ k.
    elim (cases_Bool (eqb (key x) k)) [
      | inl t ↦ (let same = eqb-true (key x) k t in let zero_k = subst (λ k. count_by (has key k) xs ≡ 0) same none in let c = counts (has key k) x xs t in omega arith)
      | inr f ↦ (let c = counts_not (has key k) x xs f in let a = apart k in omega arith)
    ]

-- an element of a new key goes to its place in another order, wherever it stands in the first
in_order-put : {X : Type 0} (key other : X → ℕ) (x : X) (xs : List X) → Rises key xs → count_by (has other (other x)) xs ≡ 0 → in_order other (put_in_order key x xs) ≡ put_in_order other x (in_order other xs)
in_order-put key other x xs rises none =
    let at = count_by (λ y. leb (key y) (key x)) xs in
    let both = sum_by-append (λ y. cond (has other (other x) y) 1 0) (take at xs) (drop at xs) in
    let whole = ap (count_by (has other (other x))) (take-append-drop at xs) in
    let before : count_by (has other (other x)) (take at xs) ≡ 0 = omega arith in
    ap (in_order other) (sym (put_in_order-insert key x xs rises))
    ∙ in_order-middle other x (take at xs) (drop at xs) before
    ∙ ap (λ ys. put_in_order other x (in_order other ys)) (take-append-drop at xs)

-- no two have one number of another kind, where that of the one that is put is new
pub AreApart-put : {X : Type 0} (key other : X → ℕ) (x : X) (xs : List X) → AreApart other xs → count_by (has other (other x)) xs ≡ 0 → AreApart other (put_in_order key x xs)
AreApart-put key other x xs apart none = λ k.
    (let more = AreApart-more other x xs apart none k in
    let c = sum_by-put_in_order key (λ y. cond (has other k y) 1 0) x xs in
    let d = count_by-cons (has other k) x xs in
    omega arith)

-- what is in one order stands in another as if it had been in none
pub in_order-again : {X : Type 0} (key other : X → ℕ) (xs : List X) → AreApart key xs → AreApart other xs → in_order other (in_order key xs) ≡ in_order other xs
in_order-again key other [] apart apart_other = refl
in_order-again key other (x ∷ xs) apart apart_other =
    let own = counts (has other (other x)) x xs (eq-eqb (other x) (other x) refl) in
    let most = apart_other (other x) in
    let none : count_by (has other (other x)) (in_order key xs) ≡ 0 = (let c = count_by-in_order key (has other (other x)) xs in omega arith) in
    let rest : AreApart key xs = (λ k. let c = count_by-cons (has key k) x xs in let a = apart k in omega arith) in
    let rest_other : AreApart other xs = (λ k. let c = count_by-cons (has other k) x xs in let a = apart_other k in omega arith) in
    in_order-put key other x (in_order key xs) (Rises-in_order key xs rest) none ∙ ap (put_in_order other x) (in_order-again key other xs rest rest_other)

-- as many stand in order
pub length-in_order : {X : Type 0} (key : X → ℕ) (xs : List X) → length (in_order key xs) ≡ length xs
length-in_order key [] = refl
length-in_order key (x ∷ xs) = length-put_in_order key x (in_order key xs) ∙ ap suc (length-in_order key xs)
