-- Names of a list, looked up one by one.
use Rattle.std.proofs.Common.{◌≡◌, ℕ, zero, suc, ◌+◌, ◌<◌, Bool, true, false, List, [], ◌∷◌, ◌++◌, length, take, drop, get_or, Some, None, Result, Ok, Err, if◌then◌else◌, refl, sym, ◌∙◌, ap, arith}
use Rattle.std.specs.List.{refill}
use Rattle.std.proofs.lemmas.List.{append-nil, take_all}
use Rattle.query.specs.declared.query.AskedObject.{AskedObject}
use Rattle.query.specs.declared.written.NameFault.{NameFault}
use Rattle.query.specs.declared.written.Source.{Source}
use Rattle.query.specs.Resolving.{Resolving, continued, in_turn, has_source, repeated}

-- what is left of a list is its next item and what is left behind that
next-left : {A : Type 0} (xs : List A) (i : ℕ) (d : A) → i < length xs → drop i xs ≡ get_or xs i d ∷ drop (i + 1) xs
next-left [] i d within = absurd (omega (arith, within))
next-left (x ∷ xs) zero d within = refl
next-left (x ∷ xs) (suc i) d within = let e : suc i + 1 ≡ suc (i + 1) = omega arith in rw e (next-left xs i d (omega (arith, within)))

none-left : {A : Type 0} (xs : List A) (i : ℕ) → i ≡ length xs → drop i xs ≡ []
none-left [] i end = rw end refl
none-left (x ∷ xs) zero end = absurd (omega (arith, end))
none-left (x ∷ xs) (suc i) end = none-left xs i (omega (arith, end))

-- So many items are looked up: what is found, with what the others are, is the whole.
pub record IsInTurn {A B : Type 0} (resolve : A → Resolving B) (whole : Result (List B × List AskedObject) NameFault) (found : List B) (xs : List A) (i : ℕ) (objects : List AskedObject) : Type 0 where
  pub same : in_turn resolve found (drop i xs) objects ≡ whole

pub begun : {A B : Type 0} (resolve : A → Resolving B) (found : List B) (xs : List A) (objects : List AskedObject) → found ≡ []
    → IsInTurn resolve (in_turn resolve [] xs objects) found xs 0 objects
begun resolve found xs objects none = record { same = rw none refl }

step : {A B : Type 0} (resolve : A → Resolving B) (found : List B) (x : A) (rest : List A) (objects : List AskedObject)
    → in_turn resolve found (x ∷ rest) objects ≡ continued (λ y. in_turn resolve (found ++ y ∷ []) rest) (resolve x objects)
unfolding in_turn
step resolve found x rest objects = refl

pub found-one : {A B : Type 0} {resolve : A → Resolving B} {whole : Result (List B × List AskedObject) NameFault} {found : List B} {xs : List A} {i : ℕ} {objects after : List AskedObject} {y : B} (d : A)
    → IsInTurn resolve whole found xs i objects → i < length xs → resolve (get_or xs i d) objects ≡ Ok (y, after)
    → IsInTurn resolve whole (found ++ y ∷ []) xs (i + 1) after
found-one {resolve = resolve} {found = found} {xs = xs} {i = i} {objects = objects} d so within is = record {
  same = sym (ap (λ rest. in_turn resolve found rest objects) (next-left xs i d within) ∙ (step resolve found (get_or xs i d) (drop (i + 1) xs) objects ∙ rw is refl)) ∙ so.same;
}

pub found-none : {A B : Type 0} {resolve : A → Resolving B} {whole : Result (List B × List AskedObject) NameFault} {found : List B} {xs : List A} {i : ℕ} {objects : List AskedObject} {fault : NameFault} (d : A)
    → IsInTurn resolve whole found xs i objects → i < length xs → resolve (get_or xs i d) objects ≡ Err fault → whole ≡ Err fault
found-none {resolve = resolve} {found = found} {xs = xs} {i = i} {objects = objects} d so within is =
    sym so.same ∙ (ap (λ rest. in_turn resolve found rest objects) (next-left xs i d within) ∙ (step resolve found (get_or xs i d) (drop (i + 1) xs) objects ∙ rw is refl))

pub found-all : {A B : Type 0} {resolve : A → Resolving B} {whole : Result (List B × List AskedObject) NameFault} {found : List B} {xs : List A} {i : ℕ} {objects : List AskedObject}
    → IsInTurn resolve whole found xs i objects → i ≡ length xs → whole ≡ Ok (found, objects)
unfolding in_turn
found-all {xs = xs} {i = i} so end = sym so.same ∙ rw (none-left xs i end) refl

-- FROM's objects before this one are different.
pub record AreNewUpTo (sources : List Source) (i : ℕ) : Type 0 where
  pub same : repeated (take i sources) (drop i sources) ≡ repeated [] sources

pub none-yet : (sources : List Source) → AreNewUpTo sources 0
none-yet sources = record { same = refl }

next-source : (before : List Source) (source : Source) (rest : List Source) (is : Bool) → has_source source.object before ≡ is
    → repeated before (source ∷ rest) ≡ (if is then Some (record { left = source.left }) else repeated (before ++ source ∷ []) rest)
unfolding repeated
next-source before source rest is has = rw has refl

taken-one : {A : Type 0} (xs : List A) (i : ℕ) (d : A) → i < length xs → take (i + 1) xs ≡ take i xs ++ get_or xs i d ∷ []
taken-one [] i d within = absurd (omega (arith, within))
taken-one (x ∷ xs) zero d within = refl
taken-one (x ∷ xs) (suc i) d within = let e : suc i + 1 ≡ suc (i + 1) = omega arith in rw e (ap (λ rest. x ∷ rest) (taken-one xs i d (omega (arith, within))))

pub is-new : {sources : List Source} {i : ℕ} (source d : Source) → AreNewUpTo sources i → i < length sources → source ≡ get_or sources i d
    → has_source source.object (take i sources) ≡ false → AreNewUpTo sources (i + 1)
is-new {sources = sources} {i = i} source d so within is new =
    let e : take (i + 1) sources ≡ take i sources ++ source ∷ [] = taken-one sources i d within ∙ ap (λ s. take i sources ++ s ∷ []) (sym is) in
    let left : drop i sources ≡ source ∷ drop (i + 1) sources = next-left sources i d within ∙ ap (λ s. s ∷ drop (i + 1) sources) (sym is) in
    record { same = ap (λ before. repeated before (drop (i + 1) sources)) e ∙ (sym (next-source (take i sources) source (drop (i + 1) sources) false new) ∙ (ap (λ rest. repeated (take i sources) rest) (sym left) ∙ so.same)) }

pub is-repeated : {sources : List Source} {i : ℕ} (source d : Source) → AreNewUpTo sources i → i < length sources → source ≡ get_or sources i d
    → has_source source.object (take i sources) ≡ true → repeated [] sources ≡ Some (record { left = source.left })
is-repeated {sources = sources} {i = i} source d so within is old =
    let left : drop i sources ≡ source ∷ drop (i + 1) sources = next-left sources i d within ∙ ap (λ s. s ∷ drop (i + 1) sources) (sym is) in
    sym so.same ∙ (ap (λ rest. repeated (take i sources) rest) left ∙ next-source (take i sources) source (drop (i + 1) sources) true old)

pub all-new : {sources : List Source} {i : ℕ} → AreNewUpTo sources i → i ≡ length sources → repeated [] sources ≡ None
unfolding repeated
all-new {sources = sources} {i = i} so end = sym so.same ∙ rw (none-left sources i end) refl

-- a list that is written over whole
pub refilled : {X : Type 0} (n : ℕ) (xs ws : List X) → n ≡ length xs → length ws ≡ length xs → refill n xs ws ≡ ws
refilled n xs ws all same = ap (λ rest. take n (ws ++ rest)) (none-left xs (length ws) same) ∙ (ap (take n) (append-nil ws) ∙ take_all n ws (omega (arith, all, same)))
