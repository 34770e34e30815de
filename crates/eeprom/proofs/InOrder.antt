-- Lists in rising order of a key: counts and sums are those of the elements in any order, and so is what a test finds.
use Rattle.std.proofs.Common.{◌≡◌, ℕ, ◌+◌, ◌<◌, ◌≤◌, Bool, true, false, cond, ◌&&◌, ◌||◌, ltb, eqb, List, [], ◌∷◌, ◌++◌, Option, Some, None, refl, ap, inl, inr, sym, ◌∙◌, subst, arith}
use Rattle.std.specs.List.{sum_by, count_by, find, filter, list_all, list_any, AllByRecursion}
use Rattle.std.proofs.lemmas.Bool.{cases_Bool, ltb-true, ltb-false, lt-ltb, le-ltb, eqb-true, eqb-false, eq-eqb, ne_eqb}
use Rattle.std.proofs.lemmas.List.Sums.{sum_by-cons}
use Rattle.eeprom.specs.Slots.{put_in_order, in_order, Rises, has, is_after, AreApart, without, replaced, nearer, above, nearest_from}

pub count_by-cons : {X : Type 0} (p : X → Bool) (x : X) (xs : List X) → count_by p (x ∷ xs) ≡ cond (p x) 1 0 + count_by p xs
count_by-cons p x xs = sum_by-cons (λ y. cond (p y) 1 0) x xs

pub counts : {X : Type 0} (p : X → Bool) (x : X) (xs : List X) → p x ≡ true → count_by p (x ∷ xs) ≡ 1 + count_by p xs
counts p x xs t = count_by-cons p x xs ∙ ap (λ (b : Bool). cond b 1 0 + count_by p xs) t

pub counts_not : {X : Type 0} (p : X → Bool) (x : X) (xs : List X) → p x ≡ false → count_by p (x ∷ xs) ≡ count_by p xs
counts_not p x xs e = count_by-cons p x xs ∙ ap (λ (b : Bool). cond b 1 0 + count_by p xs) e ∙ omega arith

pub sum_by-put_in_order : {X : Type 0} (key f : X → ℕ) (x : X) (xs : List X) → sum_by f (put_in_order key x xs) ≡ f x + sum_by f xs
sum_by-put_in_order key f x [] = sum_by-cons f x []
sum_by-put_in_order key f x (y ∷ ys) =
    elim (cases_Bool (ltb (key x) (key y))) [
      | inl t ↦ rw t (sum_by-cons f x (y ∷ ys))
      | inr e ↦ rw e (let a = sum_by-cons f y (put_in_order key x ys) in let b = sum_by-cons f y ys in let h = sum_by-put_in_order key f x ys in omega arith)
    ]

pub sum_by-in_order : {X : Type 0} (key f : X → ℕ) (xs : List X) → sum_by f (in_order key xs) ≡ sum_by f xs
sum_by-in_order key f [] = refl
sum_by-in_order key f (x ∷ xs) = sum_by-put_in_order key f x (in_order key xs) ∙ ap (λ n. f x + n) (sum_by-in_order key f xs) ∙ sym (sum_by-cons f x xs)

pub count_by-in_order : {X : Type 0} (key : X → ℕ) (p : X → Bool) (xs : List X) → count_by p (in_order key xs) ≡ count_by p xs
count_by-in_order key p xs = sum_by-in_order key (λ x. cond (p x) 1 0) xs

-- of two elements one at most is found, so their order is the same to a test
either_first : {X : Type 0} (a b : Bool) (x y : X) (rest placed : Option X) → cond a 1 0 + cond b 1 0 ≤ 1 → placed ≡ cond a (Some x) rest → cond b (Some y) placed ≡ cond a (Some x) (cond b (Some y) rest)
either_first true true x y rest placed few e = absurd (omega arith)
either_first true false x y rest placed few e = e
either_first false true x y rest placed few e = refl
either_first false false x y rest placed few e = e

find-put_in_order : {X : Type 0} (key : X → ℕ) (p : X → Bool) (x : X) (xs : List X) → count_by p (x ∷ xs) ≤ 1 → find p (put_in_order key x xs) ≡ find p (x ∷ xs)
find-put_in_order key p x [] h = refl
find-put_in_order key p x (y ∷ ys) h =
    let a = count_by-cons p x (y ∷ ys) in
    let b = count_by-cons p y ys in
    let c = count_by-cons p x ys in
    let few : count_by p (x ∷ ys) ≤ 1 = omega arith in
    elim (cases_Bool (ltb (key x) (key y))) [
      | inl t ↦ rw t refl
      | inr e ↦ rw e (either_first (p x) (p y) x y (find p ys) (find p (put_in_order key x ys)) (omega arith) (find-put_in_order key p x ys few))
    ]

pub find-in_order : {X : Type 0} (key : X → ℕ) (p : X → Bool) (xs : List X) → count_by p xs ≤ 1 → find p (in_order key xs) ≡ find p xs
find-in_order key p [] h = refl
find-in_order key p (x ∷ xs) h =
    let a = count_by-cons p x xs in
    let b = count_by-cons p x (in_order key xs) in
    let c = count_by-in_order key p xs in
    let few : count_by p xs ≤ 1 = omega arith in
    let placed : count_by p (x ∷ in_order key xs) ≤ 1 = omega arith in
    find-put_in_order key p x (in_order key xs) placed ∙ ap (λ found. cond (p x) (Some x) found) (find-in_order key p xs few)

-- what a test of two numbers says of the other tests
flips : (a b : ℕ) → ltb a b ≡ true → ltb b a ≡ false
flips a b t = let h = ltb-true a b t in le-ltb b a (omega arith)

flips_ne : (a b : ℕ) → ltb a b ≡ false → (a ≡ b → ⊥) → ltb b a ≡ true
flips_ne a b f ne = let h = ltb-false a b f in lt-ltb b a (omega arith)

between_tests : (a b c : ℕ) → ltb a c ≡ true → ltb b c ≡ false → ltb a b ≡ true
between_tests a b c t f = let h = ltb-true a c t in let g = ltb-false b c f in lt-ltb a b (omega arith)

-- two elements of different keys may go to their places in either order
put_in_order-swap : {X : Type 0} (key : X → ℕ) (x y : X) (xs : List X) → (key x ≡ key y → ⊥) → put_in_order key x (put_in_order key y xs) ≡ put_in_order key y (put_in_order key x xs)
put_in_order-swap key x y [] ne =
    elim (cases_Bool (ltb (key x) (key y))) [
      | inl t ↦ simp (t, flips (key x) (key y) t)
      | inr f ↦ simp (f, flips_ne (key x) (key y) f ne)
    ]
put_in_order-swap key x y (z ∷ zs) ne =
    elim (cases_Bool (ltb (key x) (key z))) [
      | inl t ↦ elim (cases_Bool (ltb (key y) (key z))) [
        | inl u ↦ elim (cases_Bool (ltb (key x) (key y))) [
          | inl v ↦ simp (t, u, v, flips (key x) (key y) v)
          | inr f ↦ simp (t, u, f, flips_ne (key x) (key y) f ne)
        ]
        | inr g ↦ (simp (t, g, flips (key x) (key y) (between_tests (key x) (key y) (key z) t g)))
      ]
      | inr f ↦ elim (cases_Bool (ltb (key y) (key z))) [
        | inl u ↦ (simp (f, u, flips (key y) (key x) (between_tests (key y) (key x) (key z) u f)))
        | inr g ↦ simp (f, g) (ap (λ placed. z ∷ placed) (put_in_order-swap key x y zs ne))
      ]
    ]

pub in_order-middle : {X : Type 0} (key : X → ℕ) (x : X) (xs ys : List X) → count_by (has key (key x)) xs ≡ 0 → in_order key (xs ++ x ∷ ys) ≡ put_in_order key x (in_order key (xs ++ ys))
in_order-middle key x [] ys none = refl
in_order-middle key x (w ∷ ws) ys none =
    elim (cases_Bool (eqb (key w) (key x))) [
      | inl t ↦ absurd (let a = counts (has key (key x)) w ws t in omega arith)
      | inr f ↦ (let a = counts_not (has key (key x)) w ws f in
          ap (put_in_order key w) (in_order-middle key x ws ys (omega arith)) ∙ put_in_order-swap key w x (in_order key (ws ++ ys)) (eqb-false (key w) (key x) f))
    ]

pub put_in_order-last : {X : Type 0} (key : X → ℕ) (x : X) (xs : List X) → AllByRecursion (λ y. key y < key x) xs → put_in_order key x xs ≡ xs ++ x ∷ []
put_in_order-last key x [] below = refl
put_in_order-last key x (y ∷ ys) below =
    let h : key y < key x = below.0 in
    rw (le-ltb (key x) (key y) (omega arith)) (ap (λ placed. y ∷ placed) (put_in_order-last key x ys below.1))

pub put_in_order-first : {X : Type 0} (key : X → ℕ) (x : X) (xs : List X) → AllByRecursion (λ y. key x < key y) xs → put_in_order key x xs ≡ x ∷ xs
put_in_order-first key x [] behind = refl
put_in_order-first key x (y ∷ ys) behind = rw (lt-ltb (key x) (key y) behind.0) refl

-- where no element has a key, nothing is left out
pub without-none : {X : Type 0} (key : X → ℕ) (k : ℕ) (xs : List X) → count_by (has key k) xs ≡ 0 → without key k xs ≡ xs
without-none key k [] none = refl
without-none key k (y ∷ ys) none =
    elim (cases_Bool (eqb (key y) k)) [
      | inl t ↦ absurd (let a = counts (has key k) y ys t in omega arith)
      | inr f ↦ (let a = counts_not (has key k) y ys f in rw f (ap (λ left. y ∷ left) (without-none key k ys (omega arith))))
    ]

pub without-put_in_order : {X : Type 0} (key : X → ℕ) (x : X) (xs : List X) → count_by (has key (key x)) xs ≡ 0 → without key (key x) (put_in_order key x xs) ≡ xs
without-put_in_order key x [] none = rw (eq-eqb (key x) (key x) refl) refl
without-put_in_order key x (y ∷ ys) none =
    elim (cases_Bool (eqb (key y) (key x))) [
      | inl t ↦ absurd (let a = counts (has key (key x)) y ys t in omega arith)
      | inr f ↦ (let a = counts_not (has key (key x)) y ys f in
          elim (cases_Bool (ltb (key x) (key y))) [
            | inl t ↦ rw t (rw (eq-eqb (key x) (key x) refl) (without-none key (key x) (y ∷ ys) none))
            | inr g ↦ rw g (rw f (ap (λ left. y ∷ left) (without-put_in_order key x ys (omega arith))))
          ])
    ]

-- where no element has its key, an element replaces none
pub replaced-none : {X : Type 0} (key : X → ℕ) (x : X) (xs : List X) → count_by (has key (key x)) xs ≡ 0 → replaced key x xs ≡ xs
replaced-none key x [] none = refl
replaced-none key x (y ∷ ys) none =
    elim (cases_Bool (eqb (key y) (key x))) [
      | inl t ↦ absurd (let a = counts (has key (key x)) y ys t in omega arith)
      | inr f ↦ (let a = counts_not (has key (key x)) y ys f in rw f (ap (λ left. y ∷ left) (replaced-none key x ys (omega arith))))
    ]

-- the key of x may be written as that of y
replaced_at : {X : Type 0} (key : X → ℕ) (x y : X) (zs : List X) → key x ≡ key y → count_by (has key (key y)) zs ≡ 0 → replaced key y (put_in_order key x zs) ≡ put_in_order key y zs
replaced_at key x y [] same none = rw (eq-eqb (key x) (key y) same) refl
replaced_at key x y (z ∷ zs) same none =
    elim (cases_Bool (eqb (key z) (key y))) [
      | inl t ↦ absurd (let a = counts (has key (key y)) z zs t in omega arith)
      | inr f ↦ (let a = counts_not (has key (key y)) z zs f in
          elim (cases_Bool (ltb (key y) (key z))) [
            | inl t ↦ (let u : ltb (key x) (key z) ≡ true = rw same t in rw (u, t) (rw (eq-eqb (key x) (key y) same) (ap (λ left. y ∷ left) (replaced-none key y (z ∷ zs) none))))
            | inr g ↦ (let u : ltb (key x) (key z) ≡ false = rw same g in rw (u, g) (rw f (ap (λ left. z ∷ left) (replaced_at key x y zs same (omega arith)))))
          ])
    ]

pub replaced-put_in_order : {X : Type 0} (key : X → ℕ) (x y : X) (zs : List X) → key x ≡ key y → count_by (has key (key x)) zs ≡ 0 → replaced key y (put_in_order key x zs) ≡ put_in_order key y zs
replaced-put_in_order key x y zs same none = replaced_at key x y zs same (subst (λ k. count_by (has key k) zs ≡ 0) same none)

all-weaker : {X : Type 0} (P Q : X → Type 0) (xs : List X) → ((x : X) → P x → Q x) → AllByRecursion P xs → AllByRecursion Q xs
all-weaker P Q [] f all = tt
all-weaker P Q (x ∷ xs) f all = (f x all.0, all-weaker P Q xs f all.1)

all-put_in_order : {X : Type 0} (key : X → ℕ) (P : X → Type 0) (x : X) (xs : List X) → P x → AllByRecursion P xs → AllByRecursion P (put_in_order key x xs)
all-put_in_order key P x [] here all = (here, tt)
all-put_in_order key P x (y ∷ ys) here all =
    elim (cases_Bool (ltb (key x) (key y))) [
      | inl t ↦ rw t (here, all)
      | inr f ↦ rw f (all.0, all-put_in_order key P x ys here all.1)
    ]

pub all-filter : {X : Type 0} (P : X → Type 0) (p : X → Bool) (xs : List X) → AllByRecursion P xs → AllByRecursion P (filter p xs)
all-filter P p [] all = tt
all-filter P p (x ∷ xs) all =
    elim (cases_Bool (p x)) [
      | inl t ↦ rw t (all.0, all-filter P p xs all.1)
      | inr f ↦ rw f (all-filter P p xs all.1)
    ]

-- of elements apart the first has a key of its own
AreApart-head : {X : Type 0} (key : X → ℕ) (x : X) (xs : List X) → AreApart key (x ∷ xs) → count_by (has key (key x)) xs ≡ 0
AreApart-head key x xs apart =
    let a = counts (has key (key x)) x xs (eq-eqb (key x) (key x) refl) in
    let b = apart (key x) in
    omega arith

AreApart-tail : {X : Type 0} (key : X → ℕ) (x : X) (xs : List X) → AreApart key (x ∷ xs) → AreApart key xs
AreApart-tail key x xs apart = λ k. let a = count_by-cons (has key k) x xs in let b = apart k in omega arith

-- the head's key is none of those behind, in rising order
apart-in_order : {X : Type 0} (key : X → ℕ) (x : X) (xs : List X) → AreApart key (x ∷ xs) → count_by (has key (key x)) (in_order key xs) ≡ 0
apart-in_order key x xs apart = count_by-in_order key (has key (key x)) xs ∙ AreApart-head key x xs apart

Rises-put_in_order : {X : Type 0} (key : X → ℕ) (x : X) (xs : List X) → Rises key xs → count_by (has key (key x)) xs ≡ 0 → Rises key (put_in_order key x xs)
Rises-put_in_order key x [] rises none = (tt, tt)
Rises-put_in_order key x (y ∷ ys) rises none =
    elim (cases_Bool (eqb (key y) (key x))) [
      | inl u ↦ absurd (let a = counts (has key (key x)) y ys u in omega arith)
      | inr g ↦ (let a = counts_not (has key (key x)) y ys g in
          let ne = eqb-false (key y) (key x) g in
          elim (cases_Bool (ltb (key x) (key y))) [
            | inl t ↦ (let less = ltb-true (key x) (key y) t in
                rw t ((less, all-weaker (λ z. key y < key z) (λ z. key x < key z) ys (λ z h. omega arith) rises.0), rises))
            | inr f ↦ (let most = ltb-false (key x) (key y) f in
                let less : key y < key x = omega (arith, ne) in
                rw f (all-put_in_order key (λ z. key y < key z) x ys less rises.0, Rises-put_in_order key x ys rises.1 (omega arith)))
          ])
    ]

pub Rises-in_order : {X : Type 0} (key : X → ℕ) (xs : List X) → AreApart key xs → Rises key (in_order key xs)
Rises-in_order key [] apart = tt
Rises-in_order key (x ∷ xs) apart =
    Rises-put_in_order key x (in_order key xs) (Rises-in_order key xs (AreApart-tail key x xs apart)) (apart-in_order key x xs apart)

-- no key is below all, and none above all
pub count-above : {X : Type 0} (key : X → ℕ) (k : ℕ) (xs : List X) → AllByRecursion (λ y. k < key y) xs → count_by (has key k) xs ≡ 0
count-above key k [] all = refl
count-above key k (x ∷ xs) all =
    let h : k < key x = all.0 in
    counts_not (has key k) x xs (ne_eqb (key x) k (λ e. omega arith)) ∙ count-above key k xs all.1

pub count-below : {X : Type 0} (key : X → ℕ) (k : ℕ) (xs : List X) → AllByRecursion (λ y. key y < k) xs → count_by (has key k) xs ≡ 0
count-below key k [] all = refl
count-below key k (x ∷ xs) all =
    let h : key x < k = all.0 in
    counts_not (has key k) x xs (ne_eqb (key x) k (λ e. omega arith)) ∙ count-below key k xs all.1

pub AreApart-rising : {X : Type 0} (key : X → ℕ) (xs : List X) → Rises key xs → AreApart key xs
AreApart-rising key [] rises = λ k. omega arith
AreApart-rising key (x ∷ xs) rises = λ k.
    elim (cases_Bool (eqb (key x) k)) [
      | inl t ↦ (let a = counts (has key k) x xs t in
          let b = count-above key (key x) xs rises.0 in
          let c : count_by (has key k) xs ≡ 0 = subst (λ k. count_by (has key k) xs ≡ 0) (eqb-true (key x) k t) b in
          omega arith)
      | inr f ↦ (let a = counts_not (has key k) x xs f in let b = AreApart-rising key xs rises.1 k in omega arith)
    ]

pub in_order-rising : {X : Type 0} (key : X → ℕ) (xs : List X) → Rises key xs → in_order key xs ≡ xs
in_order-rising key [] rises = refl
in_order-rising key (x ∷ xs) rises = ap (put_in_order key x) (in_order-rising key xs rises.1) ∙ put_in_order-first key x xs rises.0

-- the nearer of three is found in either grouping
nearer-assoc : {X : Type 0} (key : X → ℕ) (a b c : Option X) → nearer key (nearer key a b) c ≡ nearer key a (nearer key b c)
nearer-assoc key None b c = refl
nearer-assoc key (Some x) None c = refl
nearer-assoc key (Some x) (Some y) None = elim (cases_Bool (ltb (key y) (key x))) [ inl t ↦ simp t | inr f ↦ simp f ]
nearer-assoc key (Some x) (Some y) (Some z) =
    elim (cases_Bool (ltb (key y) (key x))) [
      | inl t ↦ elim (cases_Bool (ltb (key z) (key y))) [
        | inl u ↦ (let h = ltb-true (key y) (key x) t in let g = ltb-true (key z) (key y) u in simp (t, u, lt-ltb (key z) (key x) (omega arith)))
        | inr v ↦ simp (t, v, t)
      ]
      | inr f ↦ elim (cases_Bool (ltb (key z) (key y))) [
        | inl u ↦ simp (f, u)
        | inr v ↦ (let h = ltb-false (key y) (key x) f in let g = ltb-false (key z) (key y) v in simp (f, v, le-ltb (key z) (key x) (omega arith)))
      ]
    ]

nearer-none : {X : Type 0} (key : X → ℕ) (a : Option X) → nearer key a None ≡ a
nearer-none key None = refl
nearer-none key (Some x) = refl

-- the first after a number, when one element more has gone to its place
after-put_in_order : {X : Type 0} (key : X → ℕ) (k : ℕ) (x : X) (zs : List X) → count_by (has key (key x)) zs ≡ 0 →
    find (is_after key k) (put_in_order key x zs) ≡ nearer key (above key k x) (find (is_after key k) zs)
after-put_in_order key k x [] none = sym (nearer-none key (above key k x))
after-put_in_order key k x (z ∷ zs) none =
    elim (cases_Bool (eqb (key z) (key x))) [
      | inl u ↦ absurd (let a = counts (has key (key x)) z zs u in omega arith)
      | inr g ↦ (let a = counts_not (has key (key x)) z zs g in
          let ne = eqb-false (key z) (key x) g in
          elim (cases_Bool (ltb (key x) (key z))) [
            | inl t ↦ elim (cases_Bool (ltb k (key x))) [
              | inl v ↦ (let h = ltb-true (key x) (key z) t in let i = ltb-true k (key x) v in
                  simp (t, v, lt-ltb k (key z) (omega arith), le-ltb (key z) (key x) (omega arith)))
              | inr w ↦ simp (t, w)
            ]
            | inr f ↦ elim (cases_Bool (ltb k (key z))) [
              | inl v ↦ (let h = ltb-false (key x) (key z) f in let i = ltb-true k (key z) v in
                  let less : key z < key x = omega (arith, ne) in
                  simp (f, v, lt-ltb k (key x) (omega arith), lt-ltb (key z) (key x) less))
              | inr w ↦ simp (f, w) (after-put_in_order key k x zs (omega arith))
            ]
          ])
    ]

nearest-from : {X : Type 0} (key : X → ℕ) (k : ℕ) (best : Option X) (xs : List X) → AreApart key xs → nearest_from key k best xs ≡ nearer key best (find (is_after key k) (in_order key xs))
nearest-from key k best [] apart = sym (nearer-none key best)
nearest-from key k best (x ∷ xs) apart =
    nearest-from key k (nearer key best (above key k x)) xs (AreApart-tail key x xs apart) ∙ nearer-assoc key best (above key k x) (find (is_after key k) (in_order key xs))
    ∙ ap (nearer key best) (sym (after-put_in_order key k x (in_order key xs) (apart-in_order key x xs apart)))

pub nearest-in_order : {X : Type 0} (key : X → ℕ) (k : ℕ) (xs : List X) → AreApart key xs → nearest_from key k None xs ≡ find (is_after key k) (in_order key xs)
nearest-in_order key k xs apart = nearest-from key k None xs apart

filter-put_in_order : {X : Type 0} (key : X → ℕ) (p : X → Bool) (x : X) (zs : List X) → Rises key zs → filter p (put_in_order key x zs) ≡ cond (p x) (put_in_order key x (filter p zs)) (filter p zs)
filter-put_in_order key p x [] rises = refl
filter-put_in_order key p x (z ∷ zs) rises =
    elim (cases_Bool (ltb (key x) (key z))) [
      | inl t ↦ (let less = ltb-true (key x) (key z) t in
          let all = all-filter (λ y. key x < key y) p (z ∷ zs) (less, all-weaker (λ y. key z < key y) (λ y. key x < key y) zs (λ y h. omega arith) rises.0) in
          rw t (ap (λ placed. cond (p x) placed (filter p (z ∷ zs))) (sym (put_in_order-first key x (filter p (z ∷ zs)) all))))
      | inr f ↦ elim (cases_Bool (p z)) [
        | inl u ↦ rw f (rw u (ap (λ left. z ∷ left) (filter-put_in_order key p x zs rises.1) ∙ elim (cases_Bool (p x)) [ inl v ↦ simp (v, f) | inr w ↦ simp w ]))
        | inr w ↦ rw f (rw w (filter-put_in_order key p x zs rises.1))
      ]
    ]

pub filter-in_order : {X : Type 0} (key : X → ℕ) (p : X → Bool) (xs : List X) → AreApart key xs → filter p (in_order key xs) ≡ in_order key (filter p xs)
filter-in_order key p [] apart = refl
filter-in_order key p (x ∷ xs) apart =
    let tail = AreApart-tail key x xs apart in
    filter-put_in_order key p x (in_order key xs) (Rises-in_order key xs tail) ∙ ap (λ left. cond (p x) (put_in_order key x left) left) (filter-in_order key p xs tail)
    ∙ elim (cases_Bool (p x)) [ inl t ↦ simp t | inr f ↦ simp f ]

and-swap : (a b c : Bool) → (b && (a && c)) ≡ (a && (b && c))
and-swap true b c = refl
and-swap false true c = refl
and-swap false false c = refl

or-swap : (a b c : Bool) → (b || (a || c)) ≡ (a || (b || c))
or-swap false b c = refl
or-swap true true c = refl
or-swap true false c = refl

list_all-put_in_order : {X : Type 0} (key : X → ℕ) (p : X → Bool) (x : X) (xs : List X) → list_all p (put_in_order key x xs) ≡ (p x && list_all p xs)
list_all-put_in_order key p x [] = refl
list_all-put_in_order key p x (y ∷ ys) =
    elim (cases_Bool (ltb (key x) (key y))) [
      | inl t ↦ rw t refl
      | inr f ↦ rw f (ap (λ left. p y && left) (list_all-put_in_order key p x ys) ∙ and-swap (p x) (p y) (list_all p ys))
    ]

pub list_all-in_order : {X : Type 0} (key : X → ℕ) (p : X → Bool) (xs : List X) → list_all p (in_order key xs) ≡ list_all p xs
list_all-in_order key p [] = refl
list_all-in_order key p (x ∷ xs) = list_all-put_in_order key p x (in_order key xs) ∙ ap (λ left. p x && left) (list_all-in_order key p xs)

list_any-put_in_order : {X : Type 0} (key : X → ℕ) (p : X → Bool) (x : X) (xs : List X) → list_any p (put_in_order key x xs) ≡ (p x || list_any p xs)
list_any-put_in_order key p x [] = refl
list_any-put_in_order key p x (y ∷ ys) =
    elim (cases_Bool (ltb (key x) (key y))) [
      | inl t ↦ rw t refl
      | inr f ↦ rw f (ap (λ left. p y || left) (list_any-put_in_order key p x ys) ∙ or-swap (p x) (p y) (list_any p ys))
    ]

pub list_any-in_order : {X : Type 0} (key : X → ℕ) (p : X → Bool) (xs : List X) → list_any p (in_order key xs) ≡ list_any p xs
list_any-in_order key p [] = refl
list_any-in_order key p (x ∷ xs) = list_any-put_in_order key p x (in_order key xs) ∙ ap (λ left. p x || left) (list_any-in_order key p xs)
