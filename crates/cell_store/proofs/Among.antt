-- Cells among others.
use Rattle.std.proofs.Common.{◌≡◌, ℕ, ◌==◌, ◌||◌, not, Bool, true, false, List, [], ◌∷◌, ◌++◌, sym, refl, ◌∙◌, true≢false}
use Rattle.std.proofs.lemmas.Bool.{and_parts}
use Rattle.eeprom.specs.StoreOf.{is_distinct}
use Rattle.cell_store.specs.Chains.{is_among, AreNotAmong}

pub among-append : (x : ℕ) (xs ys : List ℕ) → is_among x (xs ++ ys) ≡ (is_among x xs || is_among x ys)
among-append x [] ys = refl
among-append x (y ∷ xs) ys = or-more (x == y) (is_among x (xs ++ ys)) (is_among x xs) (is_among x ys) (among-append x xs ys)
  where
    or-more : (t a b c : Bool) → a ≡ (b || c) → (t || a) ≡ ((t || b) || c)
    or-more true a b c e = refl
    or-more false a b c e = e

pub neither : (a b : Bool) → (a || b) ≡ false → (a ≡ false) × (b ≡ false)
neither true b h = absurd (true≢false h)
neither false b h = (refl, h)

pub among-none : (x : ℕ) (xs ys : List ℕ) → is_among x xs ≡ false → is_among x ys ≡ false → is_among x (xs ++ ys) ≡ false
among-none x xs ys a b = among-append x xs ys ∙ rw (a, b) refl

pub among-parts : (x : ℕ) (xs ys : List ℕ) → is_among x (xs ++ ys) ≡ false → (is_among x xs ≡ false) × (is_among x ys ≡ false)
among-parts x xs ys h = neither (is_among x xs) (is_among x ys) (sym (among-append x xs ys) ∙ h)

pub not-true : (b : Bool) → not b ≡ true → b ≡ false
not-true true h = absurd (true≢false (sym h))
not-true false h = refl

pub distinct-parts : (xs ys : List ℕ) → is_distinct (xs ++ ys) ≡ true → (is_distinct xs ≡ true) × (is_distinct ys ≡ true) × AreNotAmong xs ys
distinct-parts [] ys h = (refl, h, tt)
distinct-parts (x ∷ xs) ys h =
    let tests = and_parts (not (is_among x (xs ++ ys))) (is_distinct (xs ++ ys)) h in
    let apart = among-parts x xs ys (not-true (is_among x (xs ++ ys)) tests.0) in
    let rest = distinct-parts xs ys tests.1 in
    (rw (apart.0) (rest.0), rest.1, (apart.1, rest.2))

pub distinct-join : (xs ys : List ℕ) → is_distinct xs ≡ true → is_distinct ys ≡ true → AreNotAmong xs ys → is_distinct (xs ++ ys) ≡ true
distinct-join [] ys a b apart = b
distinct-join (x ∷ xs) ys a b apart =
    let tests = and_parts (not (is_among x xs)) (is_distinct xs) a in
    rw (among-none x xs ys (not-true (is_among x xs) tests.0) apart.0) (distinct-join xs ys tests.1 b apart.1)
